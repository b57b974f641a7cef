use Rattle.std.proofs.Common.{◌≡◌, ◌∙◌, ap, false, rules}
use Rattle.std.specs.BTreeMap.{get}
use Rattle.std.specs.Option.{is_some}
use Rattle.kv_core.specs.Bytes.{key_cmp}
use Rattle.kv_core.specs.Map.{value_after}
use Rattle.txn.proofs.Comparing.{uncompared_at}
use Rattle.txn.proofs.OneMore.{add_alone, compare_alone, with_set, with_add, with_clear}
use Rattle.txn.proofs.own.OwnWrites.with.Goals as goal
use Rattle.txn.proofs.own.OwnWrites.with.Goals.{in-Set, in-Add+else-is_some+in_ok-add-in-Add, in-ClearRange+in_ok-add-in-ClearRange+in_ok-forget_range-in-ClearRange}

pub with_compared-requires : goal.with_compared-requires
with_compared-requires c = λ other before e. ap (λ m. value_after m other before) c.in-Add.is ∙ add_alone c.in-Add.key c.in-Add.operand other before e

pub with_compared-requires-in-CompareAndClear : goal.with_compared-requires-in-CompareAndClear
with_compared-requires-in-CompareAndClear c = λ other before e.
    ap (λ m. value_after m other before) c.in-CompareAndClear.is ∙ compare_alone c.in-CompareAndClear.key _ other before e

pub returns : goal.returns
returns c = λ key before. elim c.match-mutation.branch [
  | in-Set w ↦ with_set c.args.self c.match-mutation.own c.apply.new.self c.args.mutation.now w.in-Set.key w.in-Set.value w.remove.new.self w.forget_key.new.compared w.in-Set.is w.own-is c.in_ok-apply.ensures.ok
      w.remove.ensures.updates.0 w.forget_key.ensures key before
  | in-Add+else-is_some+in_ok-add-in-Add w ↦ with_add c.args.self c.match-mutation.own w.add.new.self c.apply.new.self c.args.mutation.now w.in-Add.key w.in-Add.operand w.in-Add.is w.own-is c.in_ok-apply.ensures.ok
      w.in_ok-add-in-Add.ensures.written w.in_ok-add-in-Add.ensures.cleared w.in_ok-add-in-Add.ensures.compared
      (uncompared_at c.args.self.compared w.in-Add.key (let missing : is_some (get key_cmp c.args.self.compared w.in-Add.key) ≡ false = search rules in missing)) w.in_ok-add-in-Add.ensures.others w.in_ok-add-in-Add.ensures.sum key before
  | in-ClearRange+in_ok-add-in-ClearRange+in_ok-forget_range-in-ClearRange w ↦ with_clear c.args.self c.match-mutation.own c.apply.new.self c.args.mutation.now w.in-ClearRange.range w.add-in-ClearRange.new.self
      w.forget_range.new.compared w.in-ClearRange.is w.own-is c.in_ok-apply.ensures.ok w.in_ok-add-in-ClearRange.ensures.ok w.in_ok-forget_range-in-ClearRange.ensures key before
]
