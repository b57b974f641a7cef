use Rattle.std.proofs.Common.{◌∙◌, ◌∷◌, [], ap, false, sym}
use Rattle.std.proofs.lemmas.Bool.{true≢false}
use Rattle.std.proofs.lemmas.List.{map-append}
use Rattle.tuple_codec.specs.Elements.{item_in, items_in}
use Rattle.metadata.specs.Written.{number_item, type_parts}
use Rattle.metadata.proofs.ToldForm.{pushed_same}
use Rattle.metadata.proofs.same_form.is_type_in.Goals as goal

pub returns-else-is_type : goal.returns-else-is_type
returns-else-is_type c = (
  λ yes. absurd (true≢false (sym yes ∙ c.if-is_type.false)),
  λ same.
      let all = map-append item_in c.in-Some.front.now (c.in-Some.first.now ∷ []) in
      let both = pushed_same (items_in c.in-Some.front.now) (type_parts false c.args.definition.now) (item_in c.in-Some.first.now) (number_item c.args.definition.now.first_fields)
      (sym all ∙ sym (ap items_in c.in-Some.ensures.cases.0) ∙ same ∙ ap (λ b. type_parts b c.args.definition.now) c.if-not-second.false) in
      c.is_type-in-Some.ensures.1 both.0,
)
