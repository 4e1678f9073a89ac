-- multipliers, read one by one
use Rattle.std.proofs.Common.{◌≡◌, ℕ, ◌+◌, ◌^◌, ◌<◌, ◌≤◌, List, [], ◌∷◌, ◌++◌, map, refl, sym, ap, ◌∙◌, subst, append_assoc, add-one}
use Rattle.std.specs.List.{All}
use Rattle.std.proofs.lemmas.List.{append-nil, map-append}
use Rattle.std.proofs.lemmas.List.Elements.{All-nil, All-push}
use Rattle.nv_lines.specs.Line.{parts, parted}
use Rattle.nv_lines.proofs.SplitLaws.{parted-parts}
use Rattle.zo_model.specs.Program.{Rise}
use Rattle.zo_cert_tree.specs.inner.NodeLine.{IsMultiplier, SpellMultipliers}
use Rattle.zo_cert_tree.specs.Node.{multiplier_text}

-- these multipliers were read, and more may follow from the row lo on
pub record ReadsMultipliers (all rest : List (List ℕ)) (done : List (ℕ × ℕ)) (lo : ℕ) : Type 0 where
  pub spelled : all ≡ map multiplier_text done ++ rest
  pub fit : All (λ m. 1 ≤ m.1) done
  pub small : All (λ m. m.1 < 2 ^ 32) done
  pub forth : (ms : List (ℕ × ℕ)) → Rise lo (2 ^ 26) ms → Rise 0 (2 ^ 26) (done ++ ms)
  pub back : (ms : List (ℕ × ℕ)) → Rise 0 (2 ^ 26) (done ++ ms) → Rise lo (2 ^ 26) ms

pub multipliers_none : (all : List (List ℕ)) → ReadsMultipliers all all [] 0
multipliers_none all = record { spelled = refl; fit = All-nil (λ m. 1 ≤ m.1); small = All-nil (λ m. m.1 < 2 ^ 32); forth = λ ms h. h; back = λ ms h. h }

pub multipliers_more : (all rest rest' : List (List ℕ)) (part : List ℕ) (done : List (ℕ × ℕ)) (lo : ℕ) (m : ℕ × ℕ) → ReadsMultipliers all rest done lo → rest ≡ part ∷ rest' → IsMultiplier lo part m → ReadsMultipliers all rest' (done ++ m ∷ []) (m.0 + 1)
multipliers_more all rest rest' part done lo m r e h =
    record {
      spelled = r.spelled ∙ (ap (λ x. map multiplier_text done ++ x) (e ∙ ap (λ x. x ∷ rest') h.spelled) ∙ (sym (append_assoc (map multiplier_text done) (multiplier_text m ∷ []) rest') ∙ ap (λ x. x ++ rest') (sym (map-append multiplier_text done (m ∷ [])))));
      fit = All-push (λ m. 1 ≤ m.1) done m r.fit h.not_zero;
      small = All-push (λ m. m.1 < 2 ^ 32) done m r.small h.small;
      forth = λ ms k. subst (Rise 0 (2 ^ 26)) (sym (append_assoc done (m ∷ []) ms)) (r.forth (m ∷ ms) (h.low, h.high, rw (← add-one) k));
      back = λ ms k. let w : Rise lo (2 ^ 26) (m ∷ ms) = r.back (m ∷ ms) (subst (Rise 0 (2 ^ 26)) (append_assoc done (m ∷ []) ms) k) in rw add-one w.2;
    }

pub multipliers_all : (all rest : List (List ℕ)) (done : List (ℕ × ℕ)) (lo : ℕ) → ReadsMultipliers all rest done lo → rest ≡ [] → SpellMultipliers all done
multipliers_all all rest done lo r e =
    record {
      multipliers = record { rise = subst (Rise 0 (2 ^ 26)) (append-nil done) (r.forth [] tt); not_zero = r.fit };
      small = r.small;
      spelled = r.spelled ∙ (ap (λ x. map multiplier_text done ++ x) e ∙ append-nil (map multiplier_text done));
    }

-- a line of these parts
pub line_of_parts : (line : List ℕ) (ps : List (List ℕ)) → parts line ≡ ps → line ≡ parted ps
line_of_parts line ps e = sym (parted-parts line) ∙ ap parted e
