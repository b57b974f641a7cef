-- The changes among the commands that a transaction performed.
use Rattle.std.proofs.Common.{◌≡◌, Bool, true, false, List, [], ◌∷◌, ◌++◌, Option, Some, None, cond, refl, sym, ap, subst, ◌∙◌}
use Rattle.std.specs.Prelude.{IfSome, filter, map}
use Rattle.std.specs.List.{filter_map}
use Rattle.std.specs.Option.{option_to_list}
use Rattle.std.proofs.lemmas.List.{map-append}
use Rattle.std.proofs.lemmas.List.Elements.{filter-append, filter_map-append}
use Rattle.command_log.specs.declared.change.Change.{Change}
use Rattle.replay.specs.Commands.{change_of}
use Rattle.schedule.specs.declared.step.Command.{Command}
use Rattle.schedule.specs.Past.{Attempt, accepted, is_accepted}
use Rattle.runtime.specs.declared.performed.Performed.{Performed}
use Rattle.runtime.specs.Traces.{attempts_of, change_of_one, changes_of}

accepted_append : (xs ys : List Attempt) → accepted (xs ++ ys) ≡ accepted xs ++ accepted ys
accepted_append xs ys =
    ap (λ l. map (λ (attempt : Attempt). attempt.command) l) (filter-append (λ (attempt : Attempt). is_accepted attempt.reply) xs ys)
    ∙ map-append (λ (attempt : Attempt). attempt.command) (filter (λ (attempt : Attempt). is_accepted attempt.reply) xs) (filter (λ (attempt : Attempt). is_accepted attempt.reply) ys)

one_change : (found : Option Change) (command : Command) → change_of command ≡ found → filter_map change_of (command ∷ []) ≡ option_to_list (change_of command)
one_change None command is = rw is refl
one_change (Some change) command is = rw is refl

changes_by : (b : Bool) (one : Performed) → is_accepted one.reply ≡ b → changes_of (one ∷ []) ≡ change_of_one one
changes_by true one is = rw is (one_change (change_of one.command) one.command refl)
changes_by false one is = rw is refl

-- with one command more
pub changes_more : (done : List Performed) (one : Performed) → changes_of (done ++ one ∷ []) ≡ changes_of done ++ change_of_one one
changes_more done one =
    ap (λ l. filter_map change_of (accepted l)) (map-append (λ (p : Performed). record { command = p.command; reply = p.reply }) done (one ∷ []))
    ∙ ap (λ l. filter_map change_of l) (accepted_append (attempts_of done) (attempts_of (one ∷ [])))
    ∙ filter_map-append change_of (accepted (attempts_of done)) (accepted (attempts_of (one ∷ [])))
    ∙ ap (λ l. changes_of done ++ l) (changes_by (is_accepted one.reply) one refl)

-- what is recorded, with one command more
pub recorded_more : (before after : Option (List Change)) (done : List Performed) (one : Performed) → IfSome before (λ changes. changes ≡ changes_of done) → IfSome after (λ made. (changes : List Change) × (before ≡ Some changes) × (made ≡ changes ++ change_of_one one)) →
    IfSome after (λ made. made ≡ changes_of (done ++ one ∷ []))
recorded_more before None done one was is = tt
recorded_more before (Some made) done one was (changes, some, more) =
    let own : changes ≡ changes_of done = subst (λ o. IfSome o (λ (c : List Change). c ≡ changes_of done)) some was in
    more ∙ ap (λ l. l ++ change_of_one one) own ∙ sym (changes_more done one)

-- a change of an accepted command, and none of one that isn't, or only looks
pub change_accepted : (one : Performed) (change : Change) → is_accepted one.reply ≡ true → Some change ≡ change_of one.command → change_of_one one ≡ change ∷ []
change_accepted one change accepts is = ap (λ b. cond b (option_to_list (change_of one.command)) []) accepts ∙ ap option_to_list (sym is)

pub change_looks : (one : Performed) → is_accepted one.reply ≡ true → None ≡ change_of one.command → change_of_one one ≡ []
change_looks one accepts is = ap (λ b. cond b (option_to_list (change_of one.command)) []) accepts ∙ ap option_to_list (sym is)

pub change_refused : (one : Performed) → is_accepted one.reply ≡ false → change_of_one one ≡ []
change_refused one refuses = ap (λ b. cond b (option_to_list (change_of one.command)) []) refuses
