use Rattle.std.proofs.Common.{rules}
use Rattle.std.proofs.lemmas.List.Folds.{list_all-map}
use Rattle.std.proofs.lemmas.Iterator.{YieldsList-from_slice}
use Rattle.std.proofs.lemmas.Iterator.Search.{all_from_yields_List}
use borrow.Author.Tests.{tests}
use Rattle.metadata.specs.declared.definition.Field.{Field}
use Rattle.metadata.specs.Change.{is_name}
use Rattle.metadata.proofs.names.are_named.Goals as goal

pub returns : goal.returns
returns c =
    rw list_all-map (all_from_yields_List (λ (field : Field). is_name field.name) _ _ _ c.all.ensures.ran (YieldsList-from_slice c.args.fields.now cc) (λ x b q k. search (rules, tests)))
