-- parts that are no multipliers
use Rattle.std.proofs.Common.{◌≡◌, ℕ, suc, ◌^◌, ◌<◌, ◌≤◌, List, [], ◌∷◌, ◌++◌, map, refl, sym, ap, ◌∙◌, subst, arith, decimal, lit≤}
use Rattle.std.specs.List.{All}
use Rattle.std.proofs.lemmas.List.{append-nil}
use Rattle.std.proofs.lemmas.List.Elements.{All-head, All-tail}
use Rattle.nv_lines.specs.Line.{Lacks}
use Rattle.nv_lines.proofs.SplitLaws.{split_one, lacks_not}
use Rattle.nv_lines.proofs.NumberLaws.{Lacks-decimal}
use Rattle.nv_lines.proofs.NumberLemmas.{decimal_one}
use Rattle.zo_model.proofs.TermLemmas.{all_between}
use Rattle.zo_model.specs.Program.{Rise}
use Rattle.zo_cert_tree.specs.Node.{multiplier_text}
use Rattle.zo_cert_tree.proofs.ReadMultipliers.{ReadsMultipliers}
use Rattle.zo_cert_tree.specs.inner.NodeLine.{IsMultiplier, SpellMultipliers}

-- a multiplier's text is parted at its colon
pub multiplier_parts : (lo : ℕ) (part front back : List ℕ) (m : ℕ × ℕ) → Lacks 58 front → part ≡ front ++ 58 ∷ back → IsMultiplier lo part m → (front ≡ decimal m.0) × (back ≡ decimal m.1)
multiplier_parts lo part front back m lack e h =
    split_one 58 front back (decimal m.0) (decimal m.1) lack (Lacks-decimal 58 m.0 (lit≤ tt) (omega (arith, h.high))) (sym e ∙ h.spelled)

-- without a colon there is no multiplier
pub no_colon : (lo : ℕ) (part : List ℕ) → Lacks 58 part → (m : ℕ × ℕ) → IsMultiplier lo part m → ⊥
no_colon lo part lack m h = lacks_not 58 (decimal m.0) (decimal m.1) part lack (sym h.spelled)

-- the numbers of a multiplier are those that were read
pub multiplier_is : (lo : ℕ) (part front back : List ℕ) (m : ℕ × ℕ) (row multiplier : ℕ) → Lacks 58 front → part ≡ front ++ 58 ∷ back → row < 2 ^ 26 → front ≡ decimal row → multiplier < 2 ^ 32 → back ≡ decimal multiplier → IsMultiplier lo part m → (m.0 ≡ row) × (m.1 ≡ multiplier)
multiplier_is lo part front back m row multiplier lack e small f fits b h =
    let p = multiplier_parts lo part front back m lack e h in
    (decimal_one m.0 row (omega (arith, h.high)) (omega arith) (sym p.0 ∙ f), decimal_one m.1 multiplier (omega (arith, h.small)) (omega arith) (sym p.1 ∙ b))

pub multiplier_one : (m n : ℕ × ℕ) → m.0 < 2 ^ 64 → n.0 < 2 ^ 64 → m.1 < 2 ^ 64 → n.1 < 2 ^ 64 → multiplier_text m ≡ multiplier_text n → m ≡ n
multiplier_one m n a b c d e =
    let p = split_one 58 (decimal m.0) (decimal m.1) (decimal n.0) (decimal n.1) (Lacks-decimal 58 m.0 (lit≤ tt) a) (Lacks-decimal 58 n.0 (lit≤ tt) b) e in
    λ j. (decimal_one m.0 n.0 a b p.0 j, decimal_one m.1 n.1 c d p.1 j)

-- multipliers whose texts begin with those of others begin with them
pub multipliers_front : (lo lo' : ℕ) (done ms : List (ℕ × ℕ)) (rest : List (List ℕ)) → Rise lo (2 ^ 26) done → All (λ m. m.1 < 2 ^ 32) done → Rise lo' (2 ^ 26) ms → All (λ m. m.1 < 2 ^ 32) ms → map multiplier_text ms ≡ map multiplier_text done ++ rest → (more : List (ℕ × ℕ)) × (ms ≡ done ++ more) × (rest ≡ map multiplier_text more)
multipliers_front lo lo' [] ms rest rd cd rm cm e = (ms, refl, sym e)
multipliers_front lo lo' (d ∷ done) [] rest rd cd rm cm e = cc
multipliers_front lo lo' (d ∷ done) (m ∷ ms) rest rd cd rm cm e =
    let heads : multiplier_text m ≡ multiplier_text d = cc (e) in
    let tails : map multiplier_text ms ≡ map multiplier_text done ++ rest = cc (e) in
    let same = multiplier_one m d (omega (arith, rm.1)) (omega (arith, rd.1)) (omega (arith, All-head (λ m. m.1 < 2 ^ 32) m ms cm)) (omega (arith, All-head (λ m. m.1 < 2 ^ 32) d done cd)) heads in
    let r = multipliers_front (suc d.0) (suc m.0) done ms rest rd.2 (All-tail (λ m. m.1 < 2 ^ 32) d done cd) rm.2 (All-tail (λ m. m.1 < 2 ^ 32) m ms cm) tails in
    (r.0, ap (λ x. x ∷ ms) same ∙ ap (λ x. d ∷ x) r.1, r.2)

-- a part that is no multiplier spells none
pub no_more_multiplier : (all rest rest' : List (List ℕ)) (part : List ℕ) (done : List (ℕ × ℕ)) (lo : ℕ) → ReadsMultipliers all rest done lo → rest ≡ part ∷ rest' → ((m : ℕ × ℕ) → IsMultiplier lo part m → ⊥) → (ms : List (ℕ × ℕ)) → SpellMultipliers all ms → ⊥
no_more_multiplier all rest rest' part done lo r e none ms h =
    let rise_done : Rise 0 (2 ^ 26) done = subst (Rise 0 (2 ^ 26)) (append-nil done) (r.forth [] tt) in
    let f = multipliers_front 0 0 done ms (part ∷ rest') rise_done r.small h.multipliers.rise h.small (sym h.spelled ∙ (r.spelled ∙ ap (λ x. map multiplier_text done ++ x) e)) in
    next f.0 f.1 f.2
  where
    next : (more : List (ℕ × ℕ)) → ms ≡ done ++ more → part ∷ rest' ≡ map multiplier_text more → ⊥
    next [] same texts = cc
    next (m ∷ more) same texts =
        let rise : Rise lo (2 ^ 26) (m ∷ more) = r.back (m ∷ more) (subst (Rise 0 (2 ^ 26)) same h.multipliers.rise) in
        none m (record { low = rise.0; high = rise.1; not_zero = all_between (λ m. 1 ≤ m.1) done more m (subst (All (λ m. 1 ≤ m.1)) same h.multipliers.not_zero); small = all_between (λ m. m.1 < 2 ^ 32) done more m (subst (All (λ m. m.1 < 2 ^ 32)) same h.small); spelled = cc })
