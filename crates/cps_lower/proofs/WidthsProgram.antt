-- A lowered program is at most as wide as the flat one.
use Rattle.std.proofs.Common.{◌≡◌, ℕ, suc, ◌+◌, ◌≤◌, max, Bool, true, false, List, [], ◌++◌, length, Option, Some, None, option_map, slice_get, refl, sym, subst, ◌∙◌, arith}
use Rattle.std.proofs.lemmas.Bool.{and_parts, false≢true}
use Rattle.std.proofs.lemmas.Option.{slice_get-map}
use Rattle.nv_base.specs.Sets.{all_different}
use Rattle.nv_base.specs.Measures.{entry_wide, Widths}
use Rattle.nv_base.proofs.Measures.{max-same}
use Rattle.flat_ir.specs.declared.flat.FlatFun.{FlatFun}
use Rattle.flat_ir.specs.Formed.{defined, is_formed, is_function, is_program}
use Rattle.flat_ir.specs.Wide.{code_wide, function_wide as flat_function_wide, group_wide as flat_group_wide, main_wide as flat_main_wide, wide as flat_wide}
use Rattle.flat_ir.proofs.Counted.{function-formed}
use Rattle.flat_ir.proofs.Widths.{groups-are-widths}
use Rattle.cps_ir.specs.Term.{Fun}
use Rattle.cps_ir.specs.Wide.{nowhere, with_wants, labels_want, labels_wide, term_wide, function_wide, main_wide, wide, AreWidths}
use Rattle.cps_ir.proofs.Widths.{bounded}
use Rattle.cps_lower.specs.inner.Lowered.{hands_on, next_variable, variables, returning, lowered, lowered_body, lowered_fun, lowered_all}
use Rattle.cps_lower.proofs.WidthsSets.{IsWithin, within-nil}
use Rattle.cps_lower.proofs.Widths.{over, IsInside}
use Rattle.cps_lower.proofs.WidthsCode.{lowered-wide}
use Rattle.cps_lower.proofs.WidthsReturn.{returning-wants, returning-wide, counted}

both-at : (a b n c : ℕ) → a ≤ n → n ≤ c → b ≤ c → max a b ≤ c
both-at a b n c x y z = omega arith

-- at the head of a function that has the label 0, which wants nothing
behind-label : (vs : List ℕ) → IsWithin vs [] → IsInside (over nowhere 0 vs) 1 None [] [] true
behind-label vs h = record { below = tt; to = within-nil []; handlers = tt; last = λ e. (omega arith, h) }

at-head : IsInside nowhere 0 None [] [] false
at-head = record { below = tt; to = within-nil []; handlers = tt; last = λ e. absurd (false≢true e) }

module _ (funs : List FlatFun) (w : Widths) where
  body-wide : (f : FlatFun) (b : Bool) → is_formed funs f.group true f.results f.params.items f.body ≡ true → hands_on funs f.group f.body ≡ b → term_wide (lowered_all funs) w f.group nowhere (lowered_body funs f b) ≤ code_wide funs w f.group [] f.body
  body-wide f true e is =
      let first = next_variable (f.params.items ++ defined f.body) in
      let xs = variables first f.results in
      let vs = labels_want (with_wants nowhere (returning xs) []) (returning xs) in
      let nothing' : IsWithin vs [] = returning-wants (with_wants nowhere (returning xs) []) xs in
      both-at (labels_wide (lowered_all funs) w f.group (over nowhere 0 vs) vs (returning xs)) (term_wide (lowered_all funs) w f.group (over nowhere 0 vs) (lowered funs f.group f.body 1 None [])) (f.results + 1) (code_wide funs w f.group [] f.body)
      (returning-wide (lowered_all funs) w f.group (over nowhere 0 vs) vs first f.results nothing') (counted funs w f.group f.body true f.results f.params.items [] e is)
      (lowered-wide funs f.group w f.body 1 None [] (over nowhere 0 vs) [] true (behind-label vs nothing') (λ k uses. refl))
  body-wide f false e is = lowered-wide funs f.group w f.body 0 None [] nowhere [] false at-head (λ k uses. sym is ∙ uses)

  lowered-function-wide : (f : FlatFun) → is_function funs f ≡ true → function_wide (lowered_all funs) w (lowered_fun funs f) ≤ flat_function_wide funs w f
  lowered-function-wide f e =
      max-same (entry_wide [] (length f.params.items)) (term_wide (lowered_all funs) w f.group nowhere (lowered_body funs f (hands_on funs f.group f.body))) (code_wide funs w f.group [] f.body)
      (body-wide f (hands_on funs f.group f.body) (and_parts (is_formed funs f.group true f.results f.params.items f.body) (all_different (f.params.items ++ defined f.body)) e).0 refl)

-- where the lowered function of a number is, the flat one is
from-flat : (funs : List FlatFun) (w : Widths) (g : Fun) (o : Option FlatFun) → option_map (lowered_fun funs) o ≡ Some g → ((f : FlatFun) → o ≡ Some f → function_wide (lowered_all funs) w (lowered_fun funs f) ≤ w f.group) → function_wide (lowered_all funs) w g ≤ w g.group
from-flat funs w g (Some f) e h = let same : lowered_fun funs f ≡ g = cc in subst (λ (g' : Fun). function_wide (lowered_all funs) w g' ≤ w g'.group) same (h f refl)
from-flat funs w g None e h = cc

lowered-widths : (funs : List FlatFun) (main : ℕ) → is_program funs main ≡ true → AreWidths (lowered_all funs) (flat_group_wide funs)
lowered-widths funs main e = record {
  by = λ i g s.
      from-flat funs (flat_group_wide funs) g (slice_get funs i) (sym (slice_get-map (lowered_fun funs) funs i) ∙ s)
      (λ f is.
      let own : function_wide (lowered_all funs) (flat_group_wide funs) (lowered_fun funs f) ≤ flat_function_wide funs (flat_group_wide funs) f = lowered-function-wide funs (flat_group_wide funs) f (function-formed funs main i f e is) in
      let group : flat_function_wide funs (flat_group_wide funs) f ≤ flat_group_wide funs f.group = (groups-are-widths funs).by i f is in
      let all : function_wide (lowered_all funs) (flat_group_wide funs) (lowered_fun funs f) ≤ flat_group_wide funs f.group = omega (arith, own, group) in
      all);
}

main-lowered : (funs : List FlatFun) (o : Option FlatFun) → AreWidths (lowered_all funs) (flat_group_wide funs) → main_wide (lowered_all funs) (option_map (lowered_fun funs) o) ≤ flat_main_wide funs o
main-lowered funs (Some f) h = bounded (lowered_all funs) (flat_group_wide funs) h (suc f.group) f.group
main-lowered funs None h = omega arith

pub wide-lowered : (funs : List FlatFun) (main : ℕ) → is_program funs main ≡ true → wide (lowered_all funs) main ≤ flat_wide funs main
wide-lowered funs main e = subst (λ o. main_wide (lowered_all funs) o ≤ flat_wide funs main) (sym (slice_get-map (lowered_fun funs) funs main)) (main-lowered funs (slice_get funs main) (lowered-widths funs main e))
