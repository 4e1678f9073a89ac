-- lines that are no nodes
use Rattle.std.proofs.Common.{◌≡◌, ℕ, suc, ◌^◌, ◌<◌, ◌≤◌, List, [], ◌∷◌, ◌++◌, get_or, map, refl, ap, ◌∙◌, arith, codes, decimal, lit≤}
use Rattle.std.specs.List.{All}
use Rattle.std.proofs.lemmas.List.{append_cancel_left}
use Rattle.std.proofs.lemmas.List.Elements.{All-head, All-tail}
use Rattle.nv_lines.specs.Line.{AllLack, parts, parted}
use Rattle.nv_lines.proofs.SplitLaws.{parts-parted, Lacks-append, Lacks-test}
use Rattle.nv_lines.proofs.NumberLaws.{Lacks-decimal}
use Rattle.zo_model.specs.Program.{Rise}
use Rattle.zo_cert_tree.specs.Node.{Node, branch_on, bound_by, clash_of, left_open, AreMultipliers, multiplier_text, node_line, IsNodeText}
use Rattle.zo_cert_tree.specs.inner.NodeLine.{SpellMultipliers, IsNodeLine, IsClashLine}

pub multipliers_lack : (lo : ℕ) (ms : List (ℕ × ℕ)) → Rise lo (2 ^ 26) ms → All (λ m. m.1 < 2 ^ 32) ms → AllLack 32 (map multiplier_text ms)
multipliers_lack lo [] r h = tt
multipliers_lack lo (m ∷ ms) r h = (
  Lacks-append 32 (decimal m.0) (58 ∷ decimal m.1) (Lacks-decimal 32 m.0 (lit≤ tt) (omega (arith, r.1))) (λ e. omega (arith, e), Lacks-decimal 32 m.1 (lit≤ tt) (omega (arith, All-head (λ m. m.1 < 2 ^ 32) m ms h))),
  multipliers_lack (suc m.0) ms r.2 (All-tail (λ m. m.1 < 2 ^ 32) m ms h),
)

pub clash_parts : (line : List ℕ) (k : IsClashLine line) → parts line ≡ codes "k" ∷ map multiplier_text k.rows
clash_parts line k =
    ap parts k.spelled ∙ parts-parted (codes "k") (map multiplier_text k.rows) (Lacks-test 32 (codes "k") refl, multipliers_lack 0 k.rows k.fits.rise k.small)

-- no multipliers after the name
pub no_clash : (line : List ℕ) (new : List (List ℕ)) → parts line ≡ codes "k" ∷ new → ((ms : List (ℕ × ℕ)) → SpellMultipliers new ms → ⊥) → IsClashLine line → ⊥
no_clash line new e none k =
    let p = clash_parts line k in
    none k.rows (record { multipliers = k.fits; small = k.small; spelled = cc (e, p) })

-- no denominator and multipliers after the name
pub no_bound : (rest : List ℕ) → ((d : ℕ) (ms : List (ℕ × ℕ)) → 1 ≤ d → d < 2 ^ 32 → AreMultipliers ms → All (λ m. m.1 < 2 ^ 32) ms → parts rest ≡ decimal d ∷ map multiplier_text ms → ⊥) → IsNodeLine (codes "d " ++ rest) → ⊥
no_bound rest none k = case k.node k.fits k.spelled
  where
    case : (n : Node) → IsNodeText n → codes "d " ++ rest ≡ node_line n → ⊥
    case (branch_on j) h e = omega (arith, ap (λ l. get_or l 0 0) e)
    case (bound_by d ms) h e =
        let tail = append_cancel_left (codes "d ") rest (parted (decimal d ∷ map multiplier_text ms)) e in
        none d ms h.0 h.1 h.2 h.3 (ap parts tail ∙ parts-parted (decimal d) (map multiplier_text ms) (Lacks-decimal 32 d (lit≤ tt) (omega (arith, h.1)), multipliers_lack 0 ms h.2.rise h.3))
    case (clash_of []) h e = omega (arith, ap (λ l. get_or l 0 0) e)
    case (clash_of (m ∷ ms)) h e = omega (arith, ap (λ l. get_or l 0 0) e)
    case left_open h e = omega (arith, ap (λ l. get_or l 0 0) e)

-- no column after the name
pub no_branch : (rest : List ℕ) → ((j : ℕ) → j < 2 ^ 26 → rest ≡ decimal j → ⊥) → IsNodeLine (codes "b " ++ rest) → ⊥
no_branch rest none k = case k.node k.fits k.spelled
  where
    case : (n : Node) → IsNodeText n → codes "b " ++ rest ≡ node_line n → ⊥
    case (branch_on j) h e = none j h (append_cancel_left (codes "b ") rest (decimal j) e)
    case (bound_by d ms) h e = omega (arith, ap (λ l. get_or l 0 0) e)
    case (clash_of []) h e = omega (arith, ap (λ l. get_or l 0 0) e)
    case (clash_of (m ∷ ms)) h e = omega (arith, ap (λ l. get_or l 0 0) e)
    case left_open h e = omega (arith, ap (λ l. get_or l 0 0) e)

-- a line that is none of the four
pub no_node : (line : List ℕ) → ((rest : List ℕ) → line ≡ codes "b " ++ rest → ⊥) → ((rest : List ℕ) → line ≡ codes "d " ++ rest → ⊥) → (line ≡ codes "o" → ⊥) → ¬ IsClashLine line → IsNodeLine line → ⊥
no_node line no_b no_d no_o no_k k = case k.node k.fits k.spelled
  where
    case : (n : Node) → IsNodeText n → line ≡ node_line n → ⊥
    case (branch_on j) h e = no_b (decimal j) e
    case (bound_by d ms) h e = no_d (parted (decimal d ∷ map multiplier_text ms)) e
    case (clash_of ms) h e = no_k (record { rows = ms; fits = h.0; small = h.1; spelled = e })
    case left_open h e = no_o e
