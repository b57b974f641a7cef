use Rattle.std.proofs.Common.{◌≡◌, ◌∙◌, List, Ok, ap, map, subst, sym}
use Rattle.std.specs.Prelude.{IfSome}
use Rattle.metadata.specs.declared.definition.TypeRequest.{TypeRequest}
use Rattle.metadata.specs.Change.{schema_of, types_alone}
use Rattle.metadata.specs.Lawful.{at_once}
use Rattle.metadata.proofs.Grown.{at_once-with_firsts}
use Rattle.metadata.proofs.MadeSchemas.{made_whole}
use Rattle.metadata.proofs.written.types_in.Goals as goal

pub returns-then-not-is_second-clause-made : goal.returns-then-not-is_second-clause-made
returns-then-not-is_second-clause-made c =
    let made = subst (λ found. IfSome found (λ types. (requests : List TypeRequest) × (schema_of requests ≡ Ok (types_alone types.items)))) c.in-Some.is c.in_ok-asked.ensures.made in
    (made.0, made.1 ∙ ap (λ ts. Ok (types_alone ts)) (sym (made_whole (types_alone c.in-Some.asked.items) made.0 made.1)))

pub returns-clause-made : goal.returns-clause-made
returns-clause-made c =
    let made = subst (λ found. IfSome found (λ types. (requests : List TypeRequest) × (schema_of requests ≡ Ok (types_alone types.items)))) c.in-Some.is c.in_ok-asked.ensures.made in (
      made.0,
      made.1
          ∙ ap (λ ts. Ok (types_alone ts)) (sym (made_whole (types_alone c.in-Some.asked.items) made.0 made.1) ∙ sym (at_once-with_firsts c.as_slice.result.now c.in-Some.asked.items)
          ∙ ap (map at_once) (sym c.with_firsts-types.ensures)),
    )
