-- The program of terms is formed.
use Rattle.std.proofs.Common.{◌≡◌, ℕ, ◌+◌, ◌≤◌, ◌<◌, ◌==◌, nat_le, Bool, true, false, ◌&&◌, List, [], ◌∷◌, ◌++◌, length, map, Option, Some, None, slice_get, if◌then◌else◌, refl, sym, ap, subst, ◌∙◌, nat_eq, ⊎_elim, arith}
use Rattle.std.specs.List.{list_all}
use Rattle.std.specs.Prelude.{option_map}
use Rattle.std.proofs.lemmas.Bool.{eq-eqb, and_from, and_parts, or_left, or_cases, eqb-true, false≢true}
use Rattle.std.proofs.lemmas.List.{append-nil}
use Rattle.std.proofs.lemmas.List.Folds.{list_all-map}
use Rattle.std.proofs.lemmas.Option.{slice_get-map}
use Rattle.std.proofs.Common.{append_assoc}
use Rattle.nv_base.specs.Access.{all_known}
use Rattle.nv_base.specs.Sets.{is_in, all_different}
use Rattle.nv_base.proofs.Sets.{in-append}
use Rattle.flat_ir.specs.declared.flat.FlatFun.{FlatFun}
use Rattle.flat_ir.specs.Formed as flat
use Rattle.cps_ir.specs.Formed.{is_formed, defined, made, raised, all_raised, agree, is_function, is_main, is_program, are_formed}
use Rattle.cps_ir.specs.Term as cps
use Rattle.cps_lower.specs.inner.Lowered.{labels, hands_on, lowered, next_variable, variables, operands, returning, lowered_body, lowered_fun, lowered_all}
use Rattle.cps_lower.proofs.Agrees.{Agrees, agrees_append, agrees_left, agrees_right, words_in, agrees_all, agree_from}
use Rattle.cps_lower.proofs.Sound.{IsSound, Place, Takes0, lowered_sound}
use Rattle.cps_lower.proofs.Numbers.{AreFrom, different-join, lowered_defined, lowered_made}
use Rattle.cps_lower.proofs.Returning.{length-variables, length-operands, variables-from, variables-different, next-above, operands-known}

-- what is formed of a function: its body, its variables and its labels
pub record IsWhole (w : ℕ → ℕ) (flats : List FlatFun) (f : FlatFun) (t : cps.Term) : Type 0 where
  pub sound : IsSound w (lowered_all flats) f.group f.results [] f.params.items t
  pub variables_apart : all_different (f.params.items ++ defined t) ≡ true
  pub labels_apart : all_different (made t) ≡ true

-- the variables of the label that returns words are new
new_variables : (known : List ℕ) (m : ℕ) → all_different known ≡ true → all_different (known ++ variables (next_variable known) m) ≡ true
new_variables known m e =
    different-join known (variables (next_variable known) m) e (variables-different (next_variable known) m)
    (λ x p q. let l : x < next_variable known = next-above known x p in let g : next_variable known ≤ x = variables-from (next_variable known) m x q in absurd (omega arith))

returning_variables : (params code xs : List ℕ) → params ++ (code ++ ((xs ++ []) ++ [])) ≡ (params ++ code) ++ xs
returning_variables params code xs = ap (λ l. params ++ (code ++ l)) (append-nil (xs ++ []) ∙ append-nil xs) ∙ sym (append_assoc params code xs)

-- the label that returns m words is formed
returning_formed : (funs : List cps.Fun) (own m i : ℕ) (ss : List (ℕ × ℕ)) (known : List ℕ) → are_formed funs own m ss known (returning (variables i m)) ≡ true
returning_formed funs own m i ss known =
    let xs = variables i m in
    let ends = all_known (xs ++ known) (operands xs) && (length (operands xs) == m) in
    and_from ends true
    (and_from (all_known (xs ++ known) (operands xs)) (length (operands xs) == m) (operands-known xs (xs ++ known) (λ x e. in-append x xs known ∙ or_left (is_in x xs) (is_in x known) e)) (eq-eqb (length (operands xs)) m (length-operands xs ∙ length-variables i m)))
    refl

returned_apart : (x : ℕ) → 1 ≤ x → is_in x (0 ∷ []) ≡ true → ⊥
returned_apart x le q =
    ⊎_elim (λ (p : nat_eq x 0 ≡ true). let e : x ≡ 0 = eqb-true x 0 p in absurd (omega arith)) (λ (p : is_in x [] ≡ true). absurd (false≢true p)) (or_cases (nat_eq x 0) (is_in x []) q)

body_whole : (w : ℕ → ℕ) (flats : List FlatFun) (f : FlatFun) (b : Bool) → hands_on flats f.group f.body ≡ b → flat.is_formed flats f.group true f.results f.params.items f.body ≡ true → all_different (f.params.items ++ flat.defined f.body) ≡ true → Agrees w (flat.raised f.body) → IsWhole w flats f (lowered_body flats f b)
body_whole w flats f false e formed different words =
    let place : Place w [] f.results f.results 0 None [] true (hands_on flats f.group f.body) = record { to = refl; handlers = tt; ends = λ t. (refl, refl); back = subst (λ c. Takes0 [] f.results 0 None c) (sym e) tt } in
    let from : AreFrom 0 (0 + labels f.body) (made (lowered flats f.group f.body 0 None [])) = lowered_made flats f.group f.body 0 None [] in
    record {
      sound = lowered_sound w flats f.group f.results f.body true f.results f.params.items formed words 0 None [] [] place;
      variables_apart = ap (λ l. all_different (f.params.items ++ l)) (lowered_defined flats f.group f.body 0 None []) ∙ different;
      labels_apart = from.different;
    }
body_whole w flats f true e formed different words =
    let known = f.params.items ++ flat.defined f.body in
    let xs = variables (next_variable known) f.results in
    let ss : List (ℕ × ℕ) = (0, length xs) ∷ [] in
    let t = lowered flats f.group f.body 1 None [] in
    let one : 1 ≤ 1 = omega arith in
    let place : Place w ss f.results f.results 1 None [] true (hands_on flats f.group f.body) =
    record { to = refl; handlers = tt; ends = λ t. (refl, refl); back = subst (λ c. Takes0 ss f.results 1 None c) (sym e) (one, ap (λ n. Some n) (length-variables (next_variable known) f.results)) } in
    let inner = lowered_sound w flats f.group f.results f.body true f.results f.params.items formed words 1 None [] ss place in
    let from : AreFrom 1 (1 + labels f.body) (made t) = lowered_made flats f.group f.body 1 None [] in
    record {
      sound = (and_from (are_formed (lowered_all flats) f.group f.results ss f.params.items (returning xs)) (is_formed (lowered_all flats) f.group f.results ss f.params.items t) (returning_formed (lowered_all flats) f.group f.results (next_variable known) ss f.params.items) inner.0, inner.1);
      variables_apart =
          ap all_different (returning_variables f.params.items (defined t) xs) ∙ ap (λ l. all_different ((f.params.items ++ l) ++ xs)) (lowered_defined flats f.group f.body 1 None []) ∙ new_variables known f.results different;
      labels_apart = different-join (made t) (0 ∷ []) from.different refl (λ x p q. returned_apart x (from.least x p) q);
    }

record AreWhole (w : ℕ → ℕ) (flats fs : List FlatFun) : Type 0 where
  functions : list_all (is_function (lowered_all flats)) (map (lowered_fun flats) fs) ≡ true
  words : Agrees w (all_raised (map (lowered_fun flats) fs))

functions_whole : (w : ℕ → ℕ) (flats fs : List FlatFun) → list_all (flat.is_function flats) fs ≡ true → Agrees w (flat.all_raised fs) → AreWhole w flats fs
functions_whole w flats [] e words = record { functions = refl; words = tt }
functions_whole w flats (f ∷ fs) e words =
    let parts = and_parts (flat.is_function flats f) (list_all (flat.is_function flats) fs) e in
    let own = and_parts (flat.is_formed flats f.group true f.results f.params.items f.body) (all_different (f.params.items ++ flat.defined f.body)) parts.0 in
    let whole = body_whole w flats f (hands_on flats f.group f.body) refl own.0 own.1 (agrees_left w (flat.raised f.body) (flat.all_raised fs) words) in
    let rest = functions_whole w flats fs parts.1 (agrees_right w (flat.raised f.body) (flat.all_raised fs) words) in
    let t = lowered_body flats f (hands_on flats f.group f.body) in
    record {
      functions =
          and_from (is_function (lowered_all flats) (lowered_fun flats f)) (list_all (is_function (lowered_all flats)) (map (lowered_fun flats) fs))
          (and_from (is_formed (lowered_all flats) f.group f.results [] f.params.items t) (all_different (f.params.items ++ defined t) && all_different (made t)) whole.sound.0
          (and_from (all_different (f.params.items ++ defined t)) (all_different (made t)) whole.variables_apart whole.labels_apart))
          rest.functions;
      words = agrees_append w (raised [] t) (all_raised (map (lowered_fun flats) fs)) whole.sound.1 rest.words;
    }

main_at : (flats : List FlatFun) (o : Option FlatFun) → flat.is_main flats o ≡ true → is_main (lowered_all flats) (option_map (lowered_fun flats) o) ≡ true
main_at flats (Some f) e = ap (λ b. nat_le (length f.params.items) 8 && b) (list_all-map (λ (g : cps.Fun). if g.group == f.group then nat_le g.results 8 else true) (lowered_fun flats) flats) ∙ e
main_at flats None e = e

-- the program of terms is formed
pub program_formed : (flats : List FlatFun) (main : ℕ) → flat.is_program flats main ≡ true → is_program (lowered_all flats) main ≡ true
program_formed flats main e =
    let p1 = and_parts (list_all (flat.is_function flats) flats) (flat.agree (flat.all_raised flats) && flat.is_main flats (slice_get flats main)) e in
    let p2 = and_parts (flat.agree (flat.all_raised flats)) (flat.is_main flats (slice_get flats main)) p1.1 in
    let w = words_in (flat.all_raised flats) in
    let whole = functions_whole w flats flats p1.0 (agrees_all (flat.all_raised flats) p2.0) in
    and_from (list_all (is_function (lowered_all flats)) (lowered_all flats)) (agree (all_raised (lowered_all flats)) && is_main (lowered_all flats) (slice_get (lowered_all flats) main)) whole.functions
    (and_from (agree (all_raised (lowered_all flats))) (is_main (lowered_all flats) (slice_get (lowered_all flats) main)) (agree_from w (all_raised (lowered_all flats)) whole.words)
    (ap (is_main (lowered_all flats)) (slice_get-map (lowered_fun flats) flats main) ∙ main_at flats (slice_get flats main) p2.1))

pub formed_at : (flats : List FlatFun) (main : ℕ) (funs : List cps.Fun) → flat.is_program flats main ≡ true → funs ≡ lowered_all flats → is_program funs main ≡ true
formed_at flats main funs program e = subst (λ l. is_program l main ≡ true) (sym e) (program_formed flats main program)
