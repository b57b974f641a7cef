use Rattle.std.proofs.Common.{length, sym, ap, ◌∙◌, arith, rules}
use Rattle.std.proofs.lemmas.Iterator.{YieldsList-from_slice, YieldsList-from_zip}
use Rattle.std.proofs.lemmas.Iterator.Search.{all_from_yields_List}
use borrow.Author.Tests.{tests}
use Rattle.metadata.specs.declared.cells.Kind.{Kind}
use Rattle.metadata.specs.declared.cells.Cell.{Cell}
use Rattle.metadata.specs.Cell.{fits}
use Rattle.metadata.proofs.CellKinds.{all_fit-zip, all_fit-unequal}
use Rattle.metadata.proofs.cells.Cells.fit.Goals as goal

pub returns-then-cells-kinds : goal.returns-then-cells-kinds
returns-then-cells-kinds c =
    sym (all_fit-unequal c.args.self.now c.args.kinds.now (omega (arith, ap length c.as_slice-cells.ensures)))

pub returns : goal.returns
returns c =
    all_from_yields_List (λ (p : Cell × Kind). fits p.1 p.0) c.all.new.self _ _ c.all.ensures.ran (YieldsList-from_zip (YieldsList-from_slice c.args.self.now cc) (YieldsList-from_slice c.args.kinds.now cc)) (λ x b q k. search (rules, tests))
    ∙ all_fit-zip c.args.self.now c.args.kinds.now (omega (arith, ap length c.as_slice-cells.ensures))
