use Rattle.std.proofs.Common.{ℕ, List, ◌-◌, ◌≤◌, ◌++◌, ◌∙◌, ap, arith, insert, slice_get}
use Rattle.std.specs.Map.{keys_of}
use Rattle.block_map.proofs.Cut.{cut_left, cut_right, dropped_begins, put_begins}
use Rattle.block_map.proofs.block.Block.put_cut.Goals as goal
use Rattle.block_map.proofs.block.Block.put_cut.Goals.{else-place-cut-via-then-place-cut+else-cut-lt-MOST, else-place-cut-via-else-place-cut}

pub returns-then-cut-lt-MOST-clause-whole : goal.returns-then-cut-lt-MOST-clause-whole
returns-then-cut-lt-MOST-clause-whole g c =
    let x : List ℕ × g.row.V.Denot = (c.args.key, c.args.value) in
    (λ i. (c.put.ensures ∙ ap (λ l. insert l c.args.place x) c.split.ensures.kept) i ++ c.split.ensures.moved i)
    ∙ cut_left c.args.self.now c.args.cut c.args.place x (omega arith) (omega (arith, c.requires.full))

pub returns-then-cut-lt-MOST-clause-bound : goal.returns-then-cut-lt-MOST-clause-bound
returns-then-cut-lt-MOST-clause-bound g c =
    ap (λ l. slice_get (keys_of l) 0) c.split.ensures.moved ∙ dropped_begins c.args.self.now c.args.cut c.args.key (omega (arith, c.requires.full))

pub returns-else-place-cut-clause-whole : goal.returns-else-place-cut-clause-whole
returns-else-place-cut-clause-whole g c =
    let x : List ℕ × g.row.V.Denot = (c.args.key, c.args.value) in
    let behind : c.args.cut ≤ c.args.place = elim c.else-place-cut.branch [ else-place-cut-via-then-place-cut+else-cut-lt-MOST w ↦ omega (arith, c.requires.last (omega arith)) | else-place-cut-via-else-place-cut w ↦ omega arith ] in
    (λ i. c.split.ensures.kept i ++ (c.put-else-place-cut.ensures ∙ ap (λ l. insert l (c.args.place - c.args.cut) x) c.split.ensures.moved) i)
    ∙ cut_right c.args.self.now c.args.cut c.args.place x behind (omega (arith, c.requires.full))

pub returns-else-place-cut-clause-bound : goal.returns-else-place-cut-clause-bound
returns-else-place-cut-clause-bound g c =
    let x : List ℕ × g.row.V.Denot = (c.args.key, c.args.value) in
    ap (λ l. slice_get (keys_of l) 0) (c.put-else-place-cut.ensures ∙ ap (λ l. insert l (c.args.place - c.args.cut) x) c.split.ensures.moved)
    ∙ put_begins c.args.self.now c.args.cut (c.args.place - c.args.cut) x (λ none. elim c.else-place-cut.branch [ else-place-cut-via-then-place-cut+else-cut-lt-MOST w ↦ omega (arith, c.requires.full) | else-place-cut-via-else-place-cut w ↦ omega arith ])
