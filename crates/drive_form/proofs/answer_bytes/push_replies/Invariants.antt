use Rattle.std.proofs.Common.{◌≡◌, ℕ, List, ◌++◌, length, take}
use Rattle.std.specs.Int.{w32, to_le_bytes}
use Rattle.std.specs.List.{AllByRecursion}
use Rattle.drive_form.specs.Form.{IsShort, each_of, sized}
use Rattle.drive_form.proofs.answer_bytes.push_replies.Given as goal

abbrev pub invariant-loop-reply : goal.invariant-loop-reply
invariant-loop-reply l =
    (texts : List (List ℕ)) × (length texts ≡ length (take l.reply-index l.replies))
    × (l.out.items ≡ l.fn.out.items ++ (to_le_bytes w32 (length l.replies) ++ each_of sized texts))
    × AllByRecursion IsShort texts
