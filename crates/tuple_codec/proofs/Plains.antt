-- A string's bytes before its first 00 stand in its pack as they are.
use Rattle.std.specs.Prelude.{◌≡◌, refl, ℕ, zero, suc, List, [], ◌∷◌, ◌++◌, All, take, drop, Option, Some, None}
use Rattle.std.proofs.Common.{sym, ap, ◌∙◌, append_assoc}
use Rattle.std.proofs.lemmas.Grind.{flat_map-append}
use Rattle.std.proofs.lemmas.List.{take-append-drop}
use Rattle.std.proofs.lemmas.List.Elements.{All-head, All-tail}
use Rattle.tuple_codec.specs.Spelling.{closed, escape, escaped}
use Rattle.tuple_codec.specs.Reading.{bytes_in_front, closed_at}
use Rattle.tuple_codec.proofs.Digits.{in_front_twice}

abbrev pub IsPlain : ℕ → Type 0
IsPlain b = b ≡ 0 → ⊥

-- ---- written

plain_escaped : (s : List ℕ) → All IsPlain s → escaped s ≡ s
plain_escaped [] h = refl
plain_escaped (zero ∷ s) h = absurd (All-head IsPlain zero s h refl)
plain_escaped (suc b ∷ s) h = ap (λ t. suc b ∷ t) (plain_escaped s (All-tail IsPlain (suc b) s h))

parts : (s : List ℕ) (n : ℕ) → All IsPlain (take n s) → escaped s ≡ take n s ++ escaped (drop n s)
parts s n h =
    ap escaped (sym (take-append-drop n s)) ∙ flat_map-append escape (take n s) (drop n s) ∙ ap (λ t. t ++ escaped (drop n s)) (plain_escaped (take n s) h)

-- a code, the plain bytes, the others with their escapes and a closing 00, one after another
pub closed_in_parts : (out : List ℕ) (code : ℕ) (s plain tail a b d new : List ℕ) (n : ℕ) → All IsPlain (take n s) → plain ≡ take n s → tail ≡ drop n s
    → a ≡ out ++ code ∷ [] → b ≡ a ++ plain → d ≡ b ++ escaped tail → new ≡ d ++ 0 ∷ [] → new ≡ out ++ code ∷ closed s
closed_in_parts out code s plain tail a b d new n h is_plain is_tail coded plainly others ended =
    let whole : (plain ++ escaped tail) ++ 0 ∷ [] ≡ closed s = ap (λ t. t ++ 0 ∷ []) (ap (λ t. t ++ escaped tail) is_plain ∙ ap (λ t. take n s ++ escaped t) is_tail ∙ sym (parts s n h)) in
    ended ∙ ap (λ t. t ++ 0 ∷ []) (others ∙ ap (λ t. t ++ escaped tail) (plainly ∙ ap (λ t. t ++ plain) coded))
    ∙ ap (λ t. t ++ 0 ∷ []) (append_assoc (out ++ code ∷ []) plain (escaped tail)) ∙ append_assoc (out ++ code ∷ []) (plain ++ escaped tail) (0 ∷ [])
    ∙ append_assoc out (code ∷ []) ((plain ++ escaped tail) ++ 0 ∷ []) ∙ ap (λ t. out ++ code ∷ t) whole

-- ---- read

front_nil : (o : Option (List ℕ × List ℕ)) → bytes_in_front [] o ≡ o
front_nil None = refl
front_nil (Some x) = refl

plain_front : (s r : List ℕ) → All IsPlain s → bytes_in_front s (closed_at r) ≡ closed_at (s ++ r)
unfolding closed_at
plain_front [] r h = front_nil (closed_at r)
plain_front (zero ∷ s) r h = absurd (All-head IsPlain zero s h refl)
plain_front (suc b ∷ s) r h = sym (in_front_twice (suc b ∷ []) s (closed_at r)) ∙ ap (bytes_in_front (suc b ∷ [])) (plain_front s r (All-tail IsPlain (suc b) s h))

-- reading on behind the plain bytes
pub reads_behind : (bs plain tail content : List ℕ) (n : ℕ) → All IsPlain (take n bs) → plain ≡ take n bs → tail ≡ drop n bs → content ≡ plain → bytes_in_front content (closed_at tail) ≡ closed_at bs
reads_behind bs plain tail content n h is_plain is_tail is =
    ap (λ s. bytes_in_front s (closed_at tail)) (is ∙ is_plain) ∙ ap (λ r. bytes_in_front (take n bs) (closed_at r)) is_tail ∙ plain_front (take n bs) (drop n bs) h ∙ ap closed_at (take-append-drop n bs)
