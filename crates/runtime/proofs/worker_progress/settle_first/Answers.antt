use Rattle.std.proofs.Common.{◌≡◌, ◌∙◌, Bool, Some, List, ◌∷◌, refl, sym, ap, subst}
use Rattle.std.specs.Prelude.{slice_index_or}
use Rattle.std.specs.List.{remove}
use Rattle.std.proofs.lemmas.Result.{err_from_is_err_and}
use Rattle.runtime.specs.declared.worker_progress.Progress.{Progress}
use Rattle.runtime.specs.declared.worker_progress.Unsettled.{Unsettled}
use Rattle.runtime.specs.Settles.{AskingEnds, HasCounted, Overflows}
use Rattle.runtime.proofs.FirstSettled.{first_counted, first_dropped, first_overflows, first_pending, first_withheld}
use Rattle.runtime.proofs.Unsettled.{counted_from, remove_first}
use Rattle.runtime.proofs.worker_progress.settle_first.Goals as goal

pub returns-in_err-is_committed-clause-settled : goal.returns-in_err-is_committed-clause-settled
returns-in_err-is_committed-clause-settled g c index start top is =
    let told = err_from_is_err_and c.from_residual.result c.from_residual.ensures.1 in
    let why : AskingEnds index start c.is_committed.new.client c.in_err-is_committed.field-0.0 =
    first_withheld index start c.args.client.now c.is_committed.new.client top c.args.progress.now c.in-Some.first.now c.in-Some.field-0-1.now c.is_committed.ensures.asked is (sym c.as_slice.ensures.value ∙ c.in-Some.ensures.cases.0)
    c.in_err-is_committed.field-0.0 (c.in_err-is_committed.ensures.told index) in
    rw (told.1, told.2) why

pub returns-in_default-2-clause-settled : goal.returns-in_default-2-clause-settled
returns-in_default-2-clause-settled g c index start top is =
    let p : Progress = c.args.progress.now in
    first_pending index start c.args.client.now c.is_committed.new.client top p c.in-Some.first.now c.in-Some.field-0-1.now c.is_committed.ensures.asked is (sym c.as_slice.ensures.value ∙ c.in-Some.ensures.cases.0)
    c.in_ok-is_committed.ensures.well_formed.once c.in_ok-is_committed.field-0 (c.in_ok-is_committed.ensures.told index) (record { built = p.built; marked = p.marked; lost = p.lost }) c.in_default-2.is refl refl refl

pub returns-then-not-is_committed-clause-settled : goal.returns-then-not-is_committed-clause-settled
returns-then-not-is_committed-clause-settled g c index start top is =
    let p : Progress = c.args.progress.now in
    let items : p.lost.items ≡ c.in-Some.first.now ∷ c.in-Some.field-0-1.now = sym c.as_slice.ensures.value ∙ c.in-Some.ensures.cases.0 in
    let rest : c.remove-first.new.self.items ≡ c.in-Some.field-0-1.now = c.remove-first.ensures.items ∙ ap (λ (l : List Unsettled). remove l 0) items ∙ remove_first c.in-Some.first.now c.in-Some.field-0-1.now in
    first_dropped index start c.args.client.now c.is_committed.new.client top p c.in-Some.first.now c.in-Some.field-0-1.now c.is_committed.ensures.asked is items
    c.in_ok-is_committed.ensures.well_formed.once c.in_ok-is_committed.field-0 (c.in_ok-is_committed.ensures.told index)
    (record { built = p.built; marked = p.marked; lost = c.remove-first.new.self }) (c.in-Some-2.is ∙ ap (λ (t : Bool). Some t) c.if-not-is_committed.true) rest refl refl

pub returns-in_err-count-clause-settled : goal.returns-in_err-count-clause-settled
returns-in_err-count-clause-settled g c index start top is =
    let items : c.args.progress.now.lost.items ≡ c.in-Some.first.now ∷ c.in-Some.field-0-1.now = sym c.as_slice.ensures.value ∙ c.in-Some.ensures.cases.0 in
    let same : c.remove-first.result ≡ c.in-Some.first.now = c.remove-first.ensures.value ∙ ap (λ (l : List Unsettled). slice_index_or l 0 c.remove-first.result) items in
    let over : Overflows c.args.progress.now.built c.in-Some.first.now.round = subst (λ (u : Unsettled). Overflows c.args.progress.now.built u.round) same c.in_err-count.ensures.counted.1 in
    let residual = err_from_is_err_and c.from_residual-in_err-count.result c.from_residual-in_err-count.ensures.1 in
    let why : AskingEnds index start c.is_committed.new.client c.in_err-count.field-0.0 =
    first_overflows index start c.args.client.now c.is_committed.new.client top c.args.progress.now c.in-Some.first.now c.in-Some.field-0-1.now c.is_committed.ensures.asked is items
    c.in_ok-is_committed.ensures.well_formed.once c.in_ok-is_committed.field-0 (c.in_ok-is_committed.ensures.told index)
    c.in_err-count.field-0.0 (c.in-Some-2.is ∙ ap (λ (t : Bool). Some t) c.if-not-is_committed.false) c.in_err-count.ensures.counted.0 over in
    rw (residual.1, residual.2) why

pub returns-clause-settled : goal.returns-clause-settled
returns-clause-settled g c index start top is =
    let p : Progress = c.args.progress.now in
    let one : Unsettled = c.in-Some.first.now in
    let items : p.lost.items ≡ one ∷ c.in-Some.field-0-1.now = sym c.as_slice.ensures.value ∙ c.in-Some.ensures.cases.0 in
    let rest : c.remove-first.new.self.items ≡ c.in-Some.field-0-1.now = c.remove-first.ensures.items ∙ ap (λ (l : List Unsettled). remove l 0) items ∙ remove_first one c.in-Some.field-0-1.now in
    let same : c.remove-first.result ≡ one = c.remove-first.ensures.value ∙ ap (λ (l : List Unsettled). slice_index_or l 0 c.remove-first.result) items in
    let counted : HasCounted c.remove-first.result.round p c.count.new.self = counted_from c.remove-first.result.round p (record { built = p.built; marked = p.marked; lost = c.remove-first.new.self }) c.count.new.self refl refl c.in_ok-count.ensures.counted in
    first_counted index start c.args.client.now c.is_committed.new.client top p one c.in-Some.field-0-1.now c.is_committed.ensures.asked is items
    c.in_ok-is_committed.ensures.well_formed.once c.in_ok-is_committed.field-0 (c.in_ok-is_committed.ensures.told index)
    c.count.new.self (c.in-Some-2.is ∙ ap (λ (t : Bool). Some t) c.if-not-is_committed.false) (c.in_ok-count.ensures.lost ∙ rest) (subst (λ (u : Unsettled). HasCounted u.round p c.count.new.self) same counted)
