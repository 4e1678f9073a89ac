-- the lines of a report, put together
use Rattle.std.proofs.Common.{◌≡◌, ℕ, List, [], ◌∷◌, ◌++◌, replicate, refl, sym, ap, ◌∙◌, subst, Bool, false}
use Rattle.std.specs.List.{All}
use Rattle.std.proofs.lemmas.List.{append-nil}
use Rattle.std.proofs.lemmas.List.Elements.{All-replicate}
use Rattle.nv_lines.specs.Line.{text_of}
use Rattle.zo_model.proofs.FaultLemmas.{spelled_more, one_line_text}

-- the front, the program, the verdict and the tree are the whole
pub report_spelled : (bytes r3 r4 r5 r7 : List ℕ) (h s b : List ℕ) (p v : List (List ℕ)) (t : List ℕ) (n : List (List ℕ)) → bytes ≡ text_of (h ∷ s ∷ b ∷ []) ++ r3 → r3 ≡ text_of p ++ r4 → r4 ≡ text_of v ++ r5 → r5 ≡ text_of (t ∷ n) ++ r7 → r7 ≡ [] → bytes ≡ text_of (h ∷ s ∷ b ∷ p ++ v ++ t ∷ n)
report_spelled bytes r3 r4 r5 r7 h s b p v t n e1 e2 e3 e4 e5 =
    let a = spelled_more bytes r3 r4 (h ∷ s ∷ b ∷ []) p e1 e2 in
    let c = spelled_more bytes r4 r5 (h ∷ s ∷ b ∷ p) v a e3 in
    let d = spelled_more bytes r5 r7 ((h ∷ s ∷ b ∷ p) ++ v) (t ∷ n) c e4 in
    d ∙ (ap (λ r. text_of (((h ∷ s ∷ b ∷ p) ++ v) ++ t ∷ n) ++ r) e5 ∙ append-nil (text_of (((h ∷ s ∷ b ∷ p) ++ v) ++ t ∷ n)))

pub three_lines : (bytes r1 r2 r3 h s b : List ℕ) → bytes ≡ h ++ 10 ∷ r1 → r1 ≡ s ++ 10 ∷ r2 → r2 ≡ b ++ 10 ∷ r3 → bytes ≡ text_of (h ∷ s ∷ b ∷ []) ++ r3
three_lines bytes r1 r2 r3 h s b e f g =
    spelled_more bytes r2 r3 (h ∷ s ∷ []) (b ∷ []) (spelled_more bytes r1 r2 (h ∷ []) (s ∷ []) (e ∙ one_line_text h r1) (f ∙ one_line_text s r2)) (g ∙ one_line_text b r3)

pub two_lines : (bytes r1 r2 v x : List ℕ) → bytes ≡ v ++ 10 ∷ r1 → r1 ≡ x ++ 10 ∷ r2 → bytes ≡ text_of (v ∷ x ∷ []) ++ r2
two_lines bytes r1 r2 v x e f = spelled_more bytes r1 r2 (v ∷ []) (x ∷ []) (e ∙ one_line_text v r1) (f ∙ one_line_text x r2)

pub tree_lines : (bytes r1 r2 t : List ℕ) (n : List (List ℕ)) → bytes ≡ t ++ 10 ∷ r1 → r1 ≡ text_of n ++ r2 → bytes ≡ text_of (t ∷ n) ++ r2
tree_lines bytes r1 r2 t n e f = spelled_more bytes r1 r2 (t ∷ []) n (e ∙ one_line_text t r1) f

pub one_line : (bytes r1 line v : List ℕ) → line ≡ v → bytes ≡ line ++ 10 ∷ r1 → bytes ≡ text_of (v ∷ []) ++ r1
one_line bytes r1 line v same e = e ∙ (ap (λ l. l ++ 10 ∷ r1) same ∙ one_line_text v r1)

pub all_blank : (on : List Bool) (n : ℕ) → on ≡ replicate n false → All (λ v. v ≡ false) on
all_blank on n e = subst (All (λ v. v ≡ false)) (sym e) (All-replicate (λ v. v ≡ false) n false refl)
