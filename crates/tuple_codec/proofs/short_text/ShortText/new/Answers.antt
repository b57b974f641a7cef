use Rattle.std.proofs.Common.{◌≡◌, ◌≤◌, true, length, refl, subst, sym, take_at}
use Rattle.std.proofs.lemmas.Str.{is_utf8-from_IsUtf8}
use Rattle.std.specs.Str.{is_utf8}
use Rattle.tuple_codec.specs.declared.short_text.TheConstants.{SHORT_TEXT}
use Rattle.tuple_codec.proofs.short_text.ShortText.new.Goals as goal

pub invariant_of-result : goal.invariant_of-result
invariant_of-result c =
    let own = c.as_bytes-own.result.now in (
      subst (λ bytes. length bytes ≤ SHORT_TEXT) (sym c.as_bytes-own.ensures.value) c.requires,
      rw c.copy_from_slice.ensures.after
          (subst (λ bytes. is_utf8 bytes ≡ true) (sym (take_at own _ (length own) refl)) (is_utf8-from_IsUtf8 own c.as_bytes-own.ensures.utf8)),
    )
