-- The clients of a new store are of one store, and so are those that take turns.
use Rattle.std.proofs.Common.{◌≡◌, ℕ, zero, suc, List, [], ◌++◌, Option, None, Some, refl, sym, ◌∙◌, subst}
use Rattle.std.specs.Prelude.{IfSome}
use Rattle.std.specs.List.{All}
use Rattle.std.specs.Option.{option_to_list}
use Rattle.std.proofs.lemmas.List.Elements.{All-append, All-cons, All-nil, All-pop}
use Rattle.std.proofs.lemmas.Option.{IfSome_then}
use Rattle.runtime.specs.declared.answers.Seen.{Seen}
use Rattle.runtime.specs.Clients.{Knowledge, fresh_clients}
use Rattle.runtime.specs.History.{Name}
use Rattle.test_threads.specs.Turns.{AreOf}

named : (name : Name) (n : ℕ) → All (λ (it : Knowledge). it.name ≡ name) (fresh_clients name n)
named name zero = All-nil (λ (it : Knowledge). it.name ≡ name)
named name (suc n) =
    let Is : Knowledge → Type 0 = λ (it : Knowledge). it.name ≡ name in
    All-append Is (fresh_clients name n) _ (named name n) (All-cons Is _ [] refl (All-nil Is))

pub first_of : (clients : List Knowledge) (name : Name) (n : ℕ) → clients ≡ fresh_clients name n → AreOf clients None
first_of clients name n is = record {
  name = name;
  named = subst (λ (ks : List Knowledge). All (λ (it : Knowledge). it.name ≡ name) ks) (sym is) (named name n);
  learnt = tt;
}

popped : (old new : List Knowledge) (taken : Option Knowledge) (told : Option Seen) (of : AreOf old told) →
    old ≡ new ++ option_to_list taken →
    All (λ (it : Knowledge). it.name ≡ of.name) new × IfSome taken (λ (it : Knowledge). it.name ≡ of.name)
popped old new taken told of is = All-pop (λ (it : Knowledge). it.name ≡ of.name) old new taken is of.named

-- what was seen is of the client that is taken out
pub teaches : (old new : List Knowledge) (taken : Option Knowledge) (client : Knowledge) (told : Option Seen) → AreOf old told →
    old ≡ new ++ option_to_list taken → taken ≡ Some client → IfSome told (λ it. it.prefix.name ≡ client.name)
teaches old new taken client told of is some =
    let p = popped old new taken told of is in
    let same = subst (λ (o : Option Knowledge). IfSome o (λ (it : Knowledge). it.name ≡ of.name)) some p.1 in
    IfSome_then told of.learnt (λ it front. front ∙ sym same)

pub next_of : (old new : List Knowledge) (taken : Option Knowledge) (client : Knowledge) (told seen : Option Seen) →
    AreOf old told → old ≡ new ++ option_to_list taken → taken ≡ Some client →
    IfSome seen (λ it. it.prefix.name ≡ client.name) → AreOf new seen
next_of old new taken client told seen of is some by =
    let p = popped old new taken told of is in
    let same = subst (λ (o : Option Knowledge). IfSome o (λ (it : Knowledge). it.name ≡ of.name)) some p.1 in
    record { name = of.name; named = p.0; learnt = IfSome_then seen by (λ it front. front ∙ same) }

pub none_of : (old new : List Knowledge) (taken : Option Knowledge) (told : Option Seen) →
    AreOf old told → old ≡ new ++ option_to_list taken → AreOf new None
none_of old new taken told of is = record { name = of.name; named = (popped old new taken told of is).0; learnt = tt }

-- two that are taken out, one after the other, are of one store
pub both_of : (all mid last : List Knowledge) (first second : Option Knowledge) (one other : Knowledge) → AreOf all None →
    all ≡ mid ++ option_to_list first → mid ≡ last ++ option_to_list second → first ≡ Some one → second ≡ Some other →
    one.name ≡ other.name
both_of all mid last first second one other of taken next is_one is_other =
    let p = popped all mid first None of taken in
    let rest : AreOf mid None = record { name = of.name; named = p.0; learnt = tt } in
    let q = popped mid last second None rest next in
    let named_one = subst (λ (o : Option Knowledge). IfSome o (λ (it : Knowledge). it.name ≡ of.name)) is_one p.1 in
    let named_other = subst (λ (o : Option Knowledge). IfSome o (λ (it : Knowledge). it.name ≡ of.name)) is_other q.1 in
    named_one ∙ sym named_other
