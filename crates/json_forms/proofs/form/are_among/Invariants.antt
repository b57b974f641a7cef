use Rattle.std.proofs.Common.{◌≡◌, map}
use Rattle.std.specs.Map.{keys_of}
use Rattle.json_forms.proofs.Keys.{all_among}
use Rattle.json_forms.proofs.form.are_among.Given as goal

abbrev pub invariant-loop-key : goal.invariant-loop-key
invariant-loop-key l =
    let keys = map (λ key. key.now) l.keys in
    all_among keys l.key-iterator ≡ all_among keys (keys_of l.members.entries)
