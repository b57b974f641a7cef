-- A schedule one step longer.
use Rattle.std.proofs.Common.{◌≡◌, List, [], ◌∷◌, ◌++◌, refl}
use Rattle.schedule.specs.declared.step.Step.{Step}
use Rattle.schedule.specs.declared.reply.Reply.{Reply}
use Rattle.schedule.specs.Past.{Past}
use Rattle.schedule.specs.Contract.{EachReply, past_of}

pub each_reply_append : (R : Past → Step → Reply → Type 0) (past : Past) (steps : List Step) (replies : List Reply) (step : Step) (reply : Reply) →
    EachReply R past steps replies → R (past_of past steps replies) step reply → EachReply R past (steps ++ step ∷ []) (replies ++ reply ∷ [])
each_reply_append R past [] [] step reply each right = (right, tt)
each_reply_append R past [] (other ∷ replies) step reply each right = absurd each
each_reply_append R past (other ∷ steps) [] step reply each right = absurd each
each_reply_append R past (first ∷ steps) (one ∷ replies) step reply each right = (each.0, each_reply_append R ((first, one) ∷ past) steps replies step reply each.1 right)

pub past_of_append : (R : Past → Step → Reply → Type 0) (past : Past) (steps : List Step) (replies : List Reply) (step : Step) (reply : Reply) →
    EachReply R past steps replies → past_of past (steps ++ step ∷ []) (replies ++ reply ∷ []) ≡ (step, reply) ∷ past_of past steps replies
past_of_append R past [] [] step reply each = refl
past_of_append R past [] (other ∷ replies) step reply each = absurd each
past_of_append R past (other ∷ steps) [] step reply each = absurd each
past_of_append R past (first ∷ steps) (one ∷ replies) step reply each = past_of_append R ((first, one) ∷ past) steps replies step reply each.1
