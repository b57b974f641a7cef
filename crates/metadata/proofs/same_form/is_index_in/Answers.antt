use Rattle.std.proofs.Common.{◌∙◌, ◌∷◌, [], ap, false, sym}
use Rattle.std.proofs.lemmas.Bool.{true≢false}
use Rattle.std.proofs.lemmas.List.{map-append}
use Rattle.tuple_codec.specs.Elements.{item_in, items_in}
use Rattle.tuple_codec.specs.Item.{bool as truth}
use Rattle.metadata.specs.Written.{index_parts}
use Rattle.metadata.proofs.ToldForm.{pushed_same}
use Rattle.metadata.proofs.same_form.is_index_in.Goals as goal

pub returns-else-is_index : goal.returns-else-is_index
returns-else-is_index c = (
  λ yes. absurd (true≢false (sym yes ∙ c.if-is_index.false)),
  λ same.
      let all = map-append item_in c.in-Some.front.now (c.in-Some.clears.now ∷ []) in
      let both = pushed_same (items_in c.in-Some.front.now) (index_parts false c.args.index.now) (item_in c.in-Some.clears.now) (truth c.args.index.now.clear_when_zero)
      (sym all ∙ sym (ap items_in c.in-Some.ensures.cases.0) ∙ same ∙ ap (λ b. index_parts b c.args.index.now) c.if-not-second.false) in
      c.is_index-in-Some.ensures.1 both.0,
)
