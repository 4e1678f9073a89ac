-- Lines of a name and a number.
use Rattle.std.proofs.Common.{◌≡◌, ℕ, ◌^◌, ◌<◌, List, [], ◌∷◌, ◌++◌, sym, ap, ◌∙◌, arith, decimal, lit≤}
use Rattle.std.proofs.lemmas.List.{append_cancel_left}
use Rattle.nv_lines.specs.Line.{Lacks, parts, parted}
use Rattle.nv_lines.proofs.SplitLaws.{parts-parted, parted-parts, Lacks-parted}
use Rattle.nv_lines.proofs.NumberLaws.{Lacks-decimal}
use Rattle.nv_lines.proofs.NumberLemmas.{decimal_one}
use Rattle.place_weights.specs.inner.Fault.{IsCounted, NoLine, cut, other}

pub counted_parts : (name line : List ℕ) (n : ℕ) → Lacks 32 name → n < 2 ^ 64 → line ≡ parted (name ∷ decimal n ∷ []) → parts line ≡ name ∷ decimal n ∷ []
counted_parts name line n h small e = ap parts e ∙ parts-parted name (decimal n ∷ []) (h, (Lacks-decimal 32 n (lit≤ tt) small, tt))

-- what stands after the name
pub counted_rest : (name line : List ℕ) (most : ℕ) (new : List (List ℕ)) → Lacks 32 name → most < 2 ^ 64 → parts line ≡ name ∷ new → (k : IsCounted name most line) → new ≡ decimal k.number ∷ []
counted_rest name line most new h small e k =
    let f = counted_parts name line k.number h (omega (arith, k.within)) k.spelled in cc (e, f)

pub counted_from_parts : (name line : List ℕ) (n : ℕ) → parts line ≡ name ∷ decimal n ∷ [] → line ≡ parted (name ∷ decimal n ∷ [])
counted_from_parts name line n e = sym (parted-parts line) ∙ ap parted e

-- a name and a number are one line
pub counted_one : (name : List ℕ) (a b : ℕ) → a < 2 ^ 64 → b < 2 ^ 64 → parted (name ∷ decimal a ∷ []) ≡ parted (name ∷ decimal b ∷ []) → a ≡ b
counted_one name a b small small' e =
    let f = append_cancel_left name (32 ∷ decimal a) (32 ∷ decimal b) e in
    let g : decimal a ≡ decimal b = cc (f) in
    decimal_one a b small small' g

-- a line of another kind stands in front
pub no_line_other : (K : List ℕ → Type 0) (bytes line rest : List ℕ) → bytes ≡ line ++ 10 ∷ rest → Lacks 10 line → ¬ K line → NoLine K bytes
no_line_other K bytes line rest e h none = other line rest e h none

-- less is asked of a line
pub no_line_weaker : (K J : List ℕ → Type 0) (bytes : List ℕ) → ((l : List ℕ) → J l → K l) → NoLine K bytes → NoLine J bytes
no_line_weaker K J bytes f (cut h) = cut h
no_line_weaker K J bytes f (other line back e h none) = other line back e h (λ j. none (f line j))

-- such a line has no line feed in it
pub counted_lack : (name : List ℕ) (n : ℕ) → Lacks 10 name → n < 2 ^ 64 → Lacks 10 (parted (name ∷ decimal n ∷ []))
counted_lack name n h small = Lacks-parted 10 (name ∷ decimal n ∷ []) (λ e. omega (arith, e)) (h, (Lacks-decimal 10 n (lit≤ tt) small, tt))
