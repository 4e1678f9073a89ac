-- The program of terms has the outcomes of the flat program.
use Rattle.std.proofs.Common.{◌≡◌, ℕ, zero, suc, ◌≤◌, Bool, true, false, List, [], ◌++◌, Option, Some, None, slice_get, refl, sym, ap, subst, ◌∙◌, arith}
use Rattle.std.proofs.lemmas.Option.{slice_get-map}
use Rattle.std.specs.Prelude.{option_map}
use Rattle.nv_base.specs.Memories.{Memories}
use Rattle.nv_base.specs.Meanings.{KeepsOutcomes}
use Rattle.nv_base.specs.Running.{Running}
use Rattle.nv_base.specs.Words.{assigned_all}
use Rattle.nv_base.specs.Progress.{IsMatchedBy}
use Rattle.nv_base.proofs.Same.{same_lands, lands_at}
use Rattle.flat_ir.specs.declared.flat.FlatFun.{FlatFun}
use Rattle.flat_ir.specs.Formed.{defined, is_program}
use Rattle.flat_ir.specs.Meaning as source
use Rattle.flat_ir.specs.Reached as reached
use Rattle.flat_ir.specs.Running.{Result, Gives, Raises, Halts, taken, closed}
use Rattle.flat_ir.proofs.Counted.{body-formed}
use Rattle.cps_ir.specs.Meaning.{Top, Bound, Frames, Bottom, ToFun, Next, does, blank, enter_fun, run, cps_meaning, params_of, params_in}
use Rattle.cps_ir.specs.Term.{Fun}
use Rattle.cps_ir.proofs.Growth.{meaning-grows}
use Rattle.cps_lower.specs.inner.Lowered.{hands_on, next_variable, variables, returning, lowered_body, lowered_fun, lowered_all}
use Rattle.cps_lower.proofs.Simulates.{world_of, goes_on, Follows, CallsFollow, AreBelow, Backs, same_goes, follows_same, simulates}
use Rattle.cps_lower.proofs.Returning.{is_back}

none_below : (n : ℕ) → AreBelow n None []
none_below n = record { to = tt; handlers = λ e. tt }

module _ (flats : List FlatFun) (main : ℕ) (program : is_program flats main ≡ true) where
  -- the body of a function
  body_follows : (depth : ℕ) → CallsFollow (lowered_all flats) depth (source.calls_within depth flats) → (i : ℕ) (f : FlatFun) → slice_get flats i ≡ Some f → (b : Bool) → hands_on flats f.group f.body ≡ b → (ws : List ℕ) (fr : Frames) (now : Running) → now.calls ≤ depth
      → Follows (lowered_all flats) None [] Top fr now.calls (source.does (source.calls_within depth flats) f.body (assigned_all source.blank f.params.items ws) now) (λ j. does (run (lowered_all flats) j) (lowered_body flats f b) (assigned_all blank f.params.items ws) Top fr (world_of now))
  body_follows depth follow i f there true e ws fr now le =
      let funs = lowered_all flats in
      let env = assigned_all blank f.params.items ws in
      let first = next_variable (f.params.items ++ defined f.body) in
      let sc = Bound (returning (variables first f.results)) env Top in
      follows_same (λ j. sym (same_goes (run funs j) sc fr (source.does (source.calls_within depth flats) f.body env now)))
      (simulates flats main program funs depth follow f.group f.body true f.results f.params.items (body-formed flats main i f program there) 1 None [] (λ t. (refl, refl)) (none_below 1) env sc
      (subst (λ c. Backs funs None c 1 sc f.results) (sym e) (omega arith, is_back funs first f.results env Top)) fr now le)
  body_follows depth follow i f there false e ws fr now le =
      let funs = lowered_all flats in
      let env = assigned_all blank f.params.items ws in
      simulates flats main program funs depth follow f.group f.body true f.results f.params.items (body-formed flats main i f program there) 0 None [] (λ t. (refl, refl)) (none_below 0) env Top
      (subst (λ c. Backs funs None c 0 Top f.results) (sym e) tt) fr now le

  -- a function that is there, or none
  enter_follows : (depth : ℕ) → CallsFollow (lowered_all flats) depth (source.calls_within depth flats) → (i : ℕ) (o : Option FlatFun) → slice_get flats i ≡ o → (ws : List ℕ) (fr : Frames) (now : Running) → now.calls ≤ depth
      → Follows (lowered_all flats) None [] Top fr now.calls (source.enter (source.calls_within depth flats) o ws now) (λ j. enter_fun (run (lowered_all flats) j) (option_map (lowered_fun flats) o) ws fr (world_of now))
  enter_follows depth follow i (Some f) there ws fr now le = body_follows depth follow i f there (hands_on flats f.group f.body) refl ws fr now le
  enter_follows depth follow i None there ws fr now le = record { spent = omega arith; by = λ j lt. (now.calls, omega arith, refl) }

  function_follows : (depth : ℕ) → CallsFollow (lowered_all flats) depth (source.calls_within depth flats) → (i : ℕ) (ws : List ℕ) (fr : Frames) (now : Running) → now.calls ≤ depth
      → Follows (lowered_all flats) None [] Top fr now.calls (source.enter (source.calls_within depth flats) (slice_get flats i) ws now) (λ j. enter_fun (run (lowered_all flats) j) (slice_get (lowered_all flats) i) ws fr (world_of now))
  function_follows depth follow i ws fr now le =
      subst (λ o. Follows (lowered_all flats) None [] Top fr now.calls (source.enter (source.calls_within depth flats) (slice_get flats i) ws now) (λ j. enter_fun (run (lowered_all flats) j) o ws fr (world_of now))) (sym (slice_get-map (lowered_fun flats) flats i))
      (enter_follows depth follow i (slice_get flats i) refl ws fr now le)

  -- a call takes one of those that are left
  taken_follows : (depth : ℕ) → CallsFollow (lowered_all flats) depth (source.calls_within depth flats) → (f : ℕ) (ws : List ℕ) (fr : Frames) (now : Running) (left : ℕ) → left ≤ suc depth
      → Follows (lowered_all flats) None [] Top fr left (taken left now (λ next. source.enter (source.calls_within depth flats) (slice_get flats f) ws next)) (λ i. run (lowered_all flats) i (ToFun f ws fr) (world_of now))
  taken_follows depth follow f ws fr now zero le = record { spent = omega arith; by = λ j lt. (0, omega arith, refl) }
  taken_follows depth follow f ws fr now (suc left) le =
      let body = function_follows depth follow f ws fr (record { calls = left; packet = now.packet; writes = now.writes }) (omega arith) in
      record {
        spent = let s = body.spent in omega arith;
        by = λ j lt. let a = body.by j lt in (suc a.0, (let s = a.1 in omega arith), a.2);
      }

  calls_follow : (depth : ℕ) → CallsFollow (lowered_all flats) depth (source.calls_within depth flats)
  calls_follow zero = record { by = λ f ws fr now le. record { spent = omega arith; by = λ j lt. (0, le, refl) } }
  calls_follow (suc depth) = record { by = λ f ws fr now le. taken_follows depth (calls_follow depth) f ws fr now now.calls le }

  closed_goes : (next : Next) (r : Result) → goes_on next None [] Top Bottom r ≡ closed r
  closed_goes next (Gives ws now) = refl
  closed_goes next (Raises e ws now) = refl
  closed_goes next (Halts how now) = refl

  pub program_lands : (args : List ℕ) (p : Memories) → IsMatchedBy (source.flat_meaning flats main args p) (cps_meaning (lowered_all flats) main args p)
  program_lands args p =
      lands_at (source.flat_meaning flats main args p) (cps_meaning (lowered_all flats) main args p)
      (λ n.
      let now : Running = record { calls = n; packet = p; writes = [] } in
      let body = function_follows n (calls_follow n) main args Bottom now (omega arith) in
      let a = body.by n body.spent in
      (a.0, (λ going. a.1), a.2 ∙ closed_goes (run (lowered_all flats) n) (source.enter (source.calls_within n flats) (slice_get flats main) args now)))

  params_same : (o : Option FlatFun) → reached.params_of o ≡ params_of (option_map (lowered_fun flats) o)
  params_same (Some f) = refl
  params_same None = refl

  pub outcomes_kept : KeepsOutcomes (reached.params_in flats main) (params_in (lowered_all flats) main) (source.flat_meaning flats main) (cps_meaning (lowered_all flats) main)
  outcomes_kept = record {
    arguments = params_same (slice_get flats main) ∙ ap params_of (sym (slice_get-map (lowered_fun flats) flats main));
    same = λ args p a h. same_lands (source.flat_meaning flats main args p) (cps_meaning (lowered_all flats) main args p) (program_lands args p) (meaning-grows (lowered_all flats) main args p);
  }

pub kept_at : (flats : List FlatFun) (main : ℕ) (funs : List Fun) → is_program flats main ≡ true → funs ≡ lowered_all flats → KeepsOutcomes (reached.params_in flats main) (params_in funs main) (source.flat_meaning flats main) (cps_meaning funs main)
kept_at flats main funs program e = subst (λ l. KeepsOutcomes (reached.params_in flats main) (params_in l main) (source.flat_meaning flats main) (cps_meaning l main)) (sym e) (outcomes_kept flats main program)
