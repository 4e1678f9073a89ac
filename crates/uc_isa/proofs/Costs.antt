-- What moves cost, list by list and label by label.
use Rattle.std.proofs.Common.{◌≡◌, ℕ, suc, ◌+◌, ◌*◌, ◌<◌, ◌||◌, List, [], ◌∷◌, ◌++◌, length, map, nat_eq, if◌then◌else◌, refl, sym, ap, ◌∙◌, arith, eq-eqb}
use Rattle.std.specs.Prelude.{nat_le}
use Rattle.std.specs.List.{list_any}
use Rattle.std.proofs.Math.Bool.{or-true}
use Rattle.uc_isa.specs.declared.instruction.Instr.{Instr}
use Rattle.uc_isa.specs.Moves.{weight, label_weight, moves_from}
use Rattle.uc_isa.specs.Starts.{IsLabelStart}
use Rattle.uc_isa.specs.StraightCode.{weights}

pub moves-append : (q : ℕ) (a b : List Instr) (starts ws : List ℕ) → moves_from q (a ++ b) starts ws ≡ moves_from q a starts ws + moves_from (q + length a) b starts ws
moves-append q [] b starts ws = let e : q + 0 ≡ q = omega arith in let same = ap (λ n. moves_from n b starts ws) e in omega arith
moves-append q (i ∷ a) b starts ws =
    let e : q + suc (length a) ≡ suc q + length a = omega arith in
    let same = ap (λ n. moves_from n b starts ws) e in
    let rest = moves-append (suc q) a b starts ws in
    omega arith

-- where the labels' weight is the same all along, it is that times the weights of the instructions
pub moves-level : (q w : ℕ) (is : List Instr) (starts ws : List ℕ) → ((d : ℕ) → d < length is → label_weight 1 starts ws (q + d) ≡ w) → moves_from q is starts ws ≡ weights is * w
moves-level q w [] starts ws h = omega arith
moves-level q w (i ∷ is) starts ws h =
    let e : q + 0 ≡ q = omega arith in
    let here : label_weight 1 starts ws q ≡ w = ap (label_weight 1 starts ws) (sym e) ∙ h 0 (omega arith) in
    let rest : moves_from (suc q) is starts ws ≡ weights is * w = moves-level (suc q) w is starts ws (λ d lt. let m : suc q + d ≡ q + suc d = omega arith in ap (label_weight 1 starts ws) m ∙ h (suc d) (omega arith)) in
    ap (λ n. weight i * n + moves_from (suc q) is starts ws) here ∙ ap (λ n. weight i * w + n) rest ∙ sym (add-mul (weight i) (weights is) w)
  where
    add-mul : (a b c : ℕ) → (a + b) * c ≡ a * c + b * c
    add-mul a b c = omega arith

pub start-first : (s : ℕ) (starts : List ℕ) → IsLabelStart (s ∷ starts) s
start-first s starts = ap (λ b. b || list_any (λ t. nat_eq s t) starts) (eq-eqb s s refl)

pub start-more : (s t : ℕ) (starts : List ℕ) → IsLabelStart starts t → IsLabelStart (s ∷ starts) t
start-more s t starts h = ap (λ b. nat_eq t s || b) h ∙ or-true (nat_eq t s)

-- two places, where no label starts between them, have the same label
pub label-same : (x p sofar : ℕ) (starts ws : List ℕ) → ((s : ℕ) → IsLabelStart starts s → nat_le s x ≡ nat_le s p) → label_weight sofar starts ws x ≡ label_weight sofar starts ws p
label-same x p sofar [] ws h = refl
label-same x p sofar (s ∷ starts) [] h =
    ap (λ b. label_weight (if b then 1 else sofar) starts [] x) (h s (start-first s starts))
    ∙ label-same x p (if nat_le s p then 1 else sofar) starts [] (λ t is. h t (start-more s t starts is))
label-same x p sofar (s ∷ starts) (w ∷ ws) h =
    ap (λ b. label_weight (if b then w else sofar) starts ws x) (h s (start-first s starts))
    ∙ label-same x p (if nat_le s p then w else sofar) starts ws (λ t is. h t (start-more s t starts is))

-- where places move in order with the starts, the label moves with them
pub label-moved : (f : ℕ → ℕ) (sofar x : ℕ) (starts ws : List ℕ) → ((s : ℕ) → IsLabelStart starts s → nat_le (f s) (f x) ≡ nat_le s x) → label_weight sofar (map f starts) ws (f x) ≡ label_weight sofar starts ws x
label-moved f sofar x [] ws h = refl
label-moved f sofar x (s ∷ starts) [] h =
    ap (λ b. label_weight (if b then 1 else sofar) (map f starts) [] (f x)) (h s (start-first s starts))
    ∙ label-moved f (if nat_le s x then 1 else sofar) x starts [] (λ t is. h t (start-more s t starts is))
label-moved f sofar x (s ∷ starts) (w ∷ ws) h =
    ap (λ b. label_weight (if b then w else sofar) (map f starts) ws (f x)) (h s (start-first s starts))
    ∙ label-moved f (if nat_le s x then w else sofar) x starts ws (λ t is. h t (start-more s t starts is))
