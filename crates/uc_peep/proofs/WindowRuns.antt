-- Code with a window replaced runs in step with the code before.
use Rattle.std.proofs.Common.{◌≡◌, ℕ, suc, ◌+◌, ◌<◌, ◌≤◌, ◌⊎◌, inl, inr, ⊎_elim, Bool, true, false, List, [], ◌∷◌, length, get_or, Some, None, refl, sym, ap, ◌∙◌, subst, arith}
use Rattle.std.specs.Prelude.{Option, slice_get, ⊤}
use Rattle.std.proofs.lemmas.Bool.{cases_lt}
use Rattle.nv_base.specs.Memories.{Memories, HasSizes}
use Rattle.uc_isa.specs.Engine.{IsEngine}
use Rattle.uc_isa.specs.Step.{Next, EndsRun, effect, step, step_at}
use Rattle.uc_isa.specs.declared.engine.Engine.{Engine}
use Rattle.uc_isa.specs.declared.engine.Stepped.TheVariants.{Went}
use Rattle.uc_isa.specs.declared.instruction.Instr.{Instr}
use Rattle.uc_isa.specs.declared.instruction.Instr.TheVariants.{Alu, Br, Halt, Immed, Read, Un, Write}
use Rattle.uc_peep.specs.Liveness.{IsClosed}
use Rattle.uc_peep.specs.Sets.{AgreeOn, has}
use Rattle.uc_peep.specs.Window.{filler}
use Rattle.uc_isa.proofs.Effects.{does-alike, goes-on, keeps-engine, keeps-sizes, keeps-value}
use Rattle.uc_isa.proofs.Lockstep.{lockstep}
use Rattle.uc_isa.specs.Alike.{GoesOn, ReadAlike, RunsAlike, StepsAlike}
use Rattle.uc_isa.specs.Program.{IsFormed}
use Rattle.uc_isa.specs.Resources.{IsNext, IsResource, Resource, value, writes}
use Rattle.uc_isa.specs.StraightCode.{IsStraight, along}
use Rattle.uc_isa.specs.Visits.{access}

-- ---- straight instructions and fillers

-- at this place the instruction leads to the next one, and has to do with no memory
abbrev pub LeadsOn : ℕ → Instr → Type 0
LeadsOn x i = IsStraight i ⊎ (i ≡ filler x)

-- such instructions stand in code from a place on
abbrev pub Lies : List Instr → ℕ → List Instr → Type 0
Lies code x [] = ⊤
Lies code x (i ∷ is) = (slice_get code x ≡ Some i) × (LeadsOn x i × Lies code (suc x) is)

abbrev pub AllStraight : List Instr → Type 0
AllStraight [] = ⊤
AllStraight (i ∷ is) = IsStraight i × AllStraight is

-- the step of such an instruction
pub record IsOnward (i : Instr) (e : Engine) (ms : Memories) : Type 0 where
  pub does : effect i e ms ≡ record { stepped = Went; engine = (effect i e ms).engine; packet = ms }
  pub next : (effect i e ms).engine.place ≡ suc e.place
  pub access : access (Some i) e ≡ None

one-on : (n : ℕ) → n + 1 ≡ suc n
one-on n = omega arith

straight-next : (i : Instr) (e : Engine) (ms : Memories) → IsStraight i → IsNext i e.place (effect i e ms).engine.place
straight-next i e ms h = by i h (goes-on i e ms)
  where
    by : (i : Instr) → IsStraight i → GoesOn i e ms (effect i e ms) → IsNext i e.place (effect i e ms).engine.place
    by (Alu d op x y) h (inl g) = absurd g.0
    by (Alu d op x y) h (inr g) = g.1
    by (Un d op x) h (inl g) = absurd g.0
    by (Un d op x) h (inr g) = g.1
    by (Immed d v sh) h (inl g) = absurd g.0
    by (Immed d v sh) h (inr g) = g.1
    by (Br t target) h g = absurd h
    by (Read mem r count ad off) h g = absurd h
    by (Write mem r count ad off) h g = absurd h
    by (Halt k n) h g = absurd h

straight-onward : (i : Instr) (e : Engine) (ms : Memories) → IsStraight i → IsNext i e.place (effect i e ms).engine.place → IsOnward i e ms
straight-onward (Alu d op x y) e ms h next = record { does = refl; next = next ∙ one-on e.place; access = refl }
straight-onward (Un d op x) e ms h next = record { does = refl; next = next ∙ one-on e.place; access = refl }
straight-onward (Immed d v sh) e ms h next = record { does = refl; next = next ∙ one-on e.place; access = refl }
straight-onward (Br t target) e ms h next = absurd h
straight-onward (Read mem r count ad off) e ms h next = absurd h
straight-onward (Write mem r count ad off) e ms h next = absurd h
straight-onward (Halt k n) e ms h next = absurd h

pub onward : (i : Instr) (x : ℕ) (e : Engine) (ms : Memories) → e.place ≡ x → LeadsOn x i → IsOnward i e ms
onward i x e ms at (inl h) = straight-onward i e ms h (straight-next i e ms h)
onward i x e ms at (inr same) = subst (λ j. IsOnward j e ms) (sym same) (record { does = refl; next = ap suc (sym at); access = refl })

onward-goes : (i : Instr) (e : Engine) (ms : Memories) → IsOnward i e ms → ¬ EndsRun (effect i e ms).stepped
onward-goes i e ms on h = subst (λ (n : Next). EndsRun n.stepped) on.does h

-- ---- what is the same after a step

module _ (code : List Instr) (sets : List ℕ) (lawful : (x : ℕ) (i : Instr) → slice_get code x ≡ Some i → IsFormed i) (closed : IsClosed code sets) where
  read-alike : (x : ℕ) (i : Instr) (e e' : Engine) → slice_get code x ≡ Some i → AgreeOn (get_or sets x 0) e e' → ReadAlike i e e'
  read-alike x i e e' at same = λ s spot r. same.by s spot ((closed x i at).needs s spot r)

  pub agree-step : (x y : ℕ) (i : Instr) (e e' : Engine) (ms : Memories) → slice_get code x ≡ Some i → IsEngine e → IsEngine e' → HasSizes ms → e.place ≡ e'.place → AgreeOn (get_or sets x 0) e e' → ¬ EndsRun (effect i e ms).stepped → IsNext i x y → AgreeOn (get_or sets y 0) (effect i e ms).engine (effect i e' ms).engine
  agree-step x y i e e' ms at h h' sizes place same goes next = record {
    by = λ s spot there. by-writes s spot there (writes i s) refl;
  }
    where
      by-writes : (s : Resource) → IsResource s → has (get_or sets y 0) s ≡ true → (b : Bool) → writes i s ≡ b → value s (effect i e ms).engine ≡ value s (effect i e' ms).engine
      by-writes s spot there true w = (does-alike i e e' ms (lawful x i at) h h' sizes place (read-alike x i e e' at same)).written goes s spot w
      by-writes s spot there false w = keeps-value i e ms s (lawful x i at) h sizes w ∙ same.by s spot ((closed x i at).passes s y spot w next there) ∙ sym (keeps-value i e' ms s (lawful x i at) h' sizes w)

  -- straight code keeps two engines alike
  pub agree-along : (is : List Instr) (x : ℕ) (e e' : Engine) (ms : Memories) → e.place ≡ x → e'.place ≡ x → IsEngine e → IsEngine e' → HasSizes ms → Lies code x is → AllStraight is → AgreeOn (get_or sets x 0) e e' → AgreeOn (get_or sets (x + length is) 0) (along is e ms) (along is e' ms)
  agree-along [] x e e' ms at at' h h' sizes lies straight same = let none : x ≡ x + 0 = omega arith in subst (λ n. AgreeOn (get_or sets n 0) e e') none same
  agree-along (i ∷ is) x e e' ms at at' h h' sizes (here, (leads, lies)) (s, straight) same =
      let more : suc x + length is ≡ x + suc (length is) = omega arith in
      let on = onward i x e ms at leads in
      let on' = onward i x e' ms at' leads in
      let next : IsNext i x (suc x) = subst (λ n. IsNext i n (suc n)) at (subst (λ n. IsNext i e.place n) on.next (straight-next i e ms s)) in
      subst (λ n. AgreeOn (get_or sets n 0) (along (i ∷ is) e ms) (along (i ∷ is) e' ms)) more
      (agree-along is (suc x) (effect i e ms).engine (effect i e' ms).engine ms (on.next ∙ ap suc at) (on'.next ∙ ap suc at') (keeps-engine i e ms (lawful x i here) h sizes) (keeps-engine i e' ms (lawful x i here) h' sizes) sizes lies straight
      (agree-step x (suc x) i e e' ms here h h' sizes (at ∙ sym at') same (onward-goes i e ms on) next))

-- ---- the two runs

-- the second code is the first with other instructions in a window, into whose inside nothing leads
pub record IsRewrite (code code' : List Instr) (sets : List ℕ) (p : ℕ) (us vs : List Instr) : Type 0 where
  pub lawful : (x : ℕ) (i : Instr) → slice_get code x ≡ Some i → IsFormed i
  pub lawful' : (x : ℕ) (i : Instr) → slice_get code' x ≡ Some i → IsFormed i
  pub closed : IsClosed code sets
  pub some : 1 ≤ length us
  pub even : length us ≡ length vs
  pub straight : AllStraight us
  pub lies : Lies code p us
  pub lies' : Lies code' p vs
  pub outside : (x : ℕ) → (x < p) ⊎ (p + length us ≤ x) → slice_get code' x ≡ slice_get code x
  pub entry : (x y : ℕ) (i : Instr) → (x < p) ⊎ (p + length us ≤ x) → slice_get code x ≡ Some i → IsNext i x y → (y ≤ p) ⊎ (p + length us ≤ y)
  pub same : (e : Engine) (ms : Memories) → IsEngine e → HasSizes ms → AgreeOn (get_or sets (p + length us) 0) (along us e ms) (along vs e ms)

-- the engine of the first code outside of the window, and that of the second
pub record AreOutside (sets : List ℕ) (p k : ℕ) (e e' : Engine) (ms : Memories) : Type 0 where
  pub engine : IsEngine e
  pub engine' : IsEngine e'
  pub sizes : HasSizes ms
  pub place : e.place ≡ e'.place
  pub outside : (e.place < p) ⊎ (p + k ≤ e.place)
  pub agree : AgreeOn (get_or sets e.place 0) e e'

-- the two inside, each with what it has still to do: the same is live after the window
pub record AreWithin (code code' : List Instr) (end_place set : ℕ) (us vs : List Instr) (e e' : Engine) (ms : Memories) : Type 0 where
  pub engine : IsEngine e
  pub engine' : IsEngine e'
  pub sizes : HasSizes ms
  pub place : e.place ≡ e'.place
  pub some : 1 ≤ length us
  pub even : length us ≡ length vs
  pub rest : e.place + length us ≡ end_place
  pub lies : Lies code e.place us
  pub lies' : Lies code' e'.place vs
  pub agree : AgreeOn set (along us e ms) (along vs e' ms)

module _ (code code' : List Instr) (sets : List ℕ) (p : ℕ) (us vs : List Instr) (r : IsRewrite code code' sets p us vs) where
  abbrev end_place : ℕ
  end_place = p + length us

  abbrev pub Related : Engine → Engine → Memories → Type 0
  Related e e' ms = AreOutside sets p (length us) e e' ms ⊎ ((is : List Instr) × (js : List Instr) × AreWithin code code' end_place (get_or sets end_place 0) is js e e' ms)

  -- where the two come to from outside, or to the end of the window
  arrive : (e e' : Engine) (ms : Memories) → IsEngine e → IsEngine e' → HasSizes ms → e.place ≡ e'.place → (e.place ≤ p) ⊎ (end_place ≤ e.place) → AgreeOn (get_or sets e.place 0) e e' → Related e e' ms
  arrive e e' ms h h' sizes place (inr past) agree = inl (record { engine = h; engine' = h'; sizes = sizes; place = place; outside = inr past; agree = agree })
  arrive e e' ms h h' sizes place (inl upto) agree =
      ⊎_elim
      (λ (less : e.place < p). inl (record { engine = h; engine' = h'; sizes = sizes; place = place; outside = inl less; agree = agree }))
      (λ (least : p ≤ e.place). let at : e.place ≡ p = omega arith in
      let at' : e'.place ≡ p = sym place ∙ at in
      let alike : AgreeOn (get_or sets end_place 0) (along us e ms) (along us e' ms) = agree-along code sets r.lawful r.closed us p e e' ms at at' h h' sizes r.lies r.straight (subst (λ n. AgreeOn (get_or sets n 0) e e') at agree) in
      let same : AgreeOn (get_or sets end_place 0) (along us e' ms) (along vs e' ms) = r.same e' ms h' sizes in
      inr (
        us,
        vs,
        record {
          engine = h;
          engine' = h';
          sizes = sizes;
          place = place;
          some = r.some;
          even = r.even;
          rest = ap (λ n. n + length us) at;
          lies = subst (λ n. Lies code n us) (sym at) r.lies;
          lies' = subst (λ n. Lies code' n vs) (sym at') r.lies';
          agree = record { by = λ s spot t. alike.by s spot t ∙ same.by s spot t };
        },
      ))
      (cases_lt e.place p)

  -- ---- outside

  out-alike : (e e' : Engine) (ms : Memories) (o : Option Instr) → slice_get code e.place ≡ o → slice_get code' e'.place ≡ o → AreOutside sets p (length us) e e' ms → StepsAlike code code' ms e e'
  out-alike e e' ms None at at' a = record {
    place = a.place;
    stepped = ap (λ o. (step_at o e ms).stepped) at ∙ sym (ap (λ o. (step_at o e' ms).stepped) at');
    packet = ap (λ o. (step_at o e ms).packet) at ∙ sym (ap (λ o. (step_at o e' ms).packet) at');
    access = ap (λ o. access o e) at ∙ sym (ap (λ o. access o e') at');
  }
  out-alike e e' ms (Some i) at at' a =
      let d = does-alike i e e' ms (r.lawful e.place i at) a.engine a.engine' a.sizes a.place (read-alike code sets r.lawful r.closed e.place i e e' at a.agree) in
      record {
        place = a.place;
        stepped = ap (λ o. (step_at o e ms).stepped) at ∙ d.stepped ∙ sym (ap (λ o. (step_at o e' ms).stepped) at');
        packet = ap (λ o. (step_at o e ms).packet) at ∙ d.packet ∙ sym (ap (λ o. (step_at o e' ms).packet) at');
        access = ap (λ o. access o e) at ∙ d.access ∙ sym (ap (λ o. access o e') at');
      }

  out-on : (i : Instr) (e e' : Engine) (ms : Memories) → slice_get code e.place ≡ Some i → AreOutside sets p (length us) e e' ms → GoesOn i e ms (effect i e ms) → GoesOn i e' ms (effect i e' ms) → Related (effect i e ms).engine (effect i e' ms).engine (effect i e ms).packet
  out-on i e e' ms at a (inl (ends, same, kept)) (inl (ends', same', kept')) = inl (subst (λ f. AreOutside sets p (length us) f (effect i e' ms).engine (effect i e ms).packet) (sym same) (subst (λ f. AreOutside sets p (length us) e f (effect i e ms).packet) (sym same') (subst (λ q. AreOutside sets p (length us) e e' q) (sym kept) a)))
  out-on i e e' ms at a (inl (ends, same, kept)) (inr (goes', next')) =
      let d = does-alike i e e' ms (r.lawful e.place i at) a.engine a.engine' a.sizes a.place (read-alike code sets r.lawful r.closed e.place i e e' at a.agree) in
      absurd (goes' (subst EndsRun d.stepped ends))
  out-on i e e' ms at a (inr (goes, next)) g =
      let d = does-alike i e e' ms (r.lawful e.place i at) a.engine a.engine' a.sizes a.place (read-alike code sets r.lawful r.closed e.place i e e' at a.agree) in
      arrive _ _ _ (keeps-engine i e ms (r.lawful e.place i at) a.engine a.sizes) (keeps-engine i e' ms (r.lawful e.place i at) a.engine' a.sizes) (keeps-sizes i e ms (r.lawful e.place i at) a.engine a.sizes) d.place (r.entry e.place _ i a.outside at next) (agree-step code sets r.lawful r.closed e.place _ i e e' ms at a.engine a.engine' a.sizes a.place a.agree goes next)

  -- related after steps whose effects are known
  related-by : (e e' f f' : Engine) (ms q : Memories) → f ≡ e → f' ≡ e' → q ≡ ms → Related e e' ms → Related f f' q
  related-by e e' f f' ms q a b c r = subst (λ x. Related x f' q) (sym a) (subst (λ x. Related e x q) (sym b) (subst (λ x. Related e e' x) (sym c) r))

  out-stays : (e e' : Engine) (ms : Memories) (o : Option Instr) → slice_get code e.place ≡ o → slice_get code' e'.place ≡ o → AreOutside sets p (length us) e e' ms → Related (step code e ms).engine (step code' e' ms).engine (step code e ms).packet
  out-stays e e' ms None at at' a = related-by e e' _ _ ms _ (ap (λ o. (step_at o e ms).engine) at) (ap (λ o. (step_at o e' ms).engine) at') (ap (λ o. (step_at o e ms).packet) at) (inl a)
  out-stays e e' ms (Some i) at at' a = related-by (effect i e ms).engine (effect i e' ms).engine _ _ (effect i e ms).packet _ (ap (λ o. (step_at o e ms).engine) at) (ap (λ o. (step_at o e' ms).engine) at') (ap (λ o. (step_at o e ms).packet) at) (out-on i e e' ms at a (goes-on i e ms) (goes-on i e' ms))

  -- ---- inside

  in-alike : (i j : Instr) (e e' : Engine) (ms : Memories) → e.place ≡ e'.place → slice_get code e.place ≡ Some i → slice_get code' e'.place ≡ Some j → IsOnward i e ms → IsOnward j e' ms → StepsAlike code code' ms e e'
  in-alike i j e e' ms place at at' on on' = record {
    place = place;
    stepped = ap (λ o. (step_at o e ms).stepped) at ∙ ap (λ (n : Next). n.stepped) on.does ∙ sym (ap (λ o. (step_at o e' ms).stepped) at' ∙ ap (λ (n : Next). n.stepped) on'.does);
    packet = ap (λ o. (step_at o e ms).packet) at ∙ ap (λ (n : Next). n.packet) on.does ∙ sym (ap (λ o. (step_at o e' ms).packet) at' ∙ ap (λ (n : Next). n.packet) on'.does);
    access = ap (λ o. access o e) at ∙ on.access ∙ sym (ap (λ o. access o e') at' ∙ on'.access);
  }

  in-on : (i j : Instr) (is js : List Instr) (e e' : Engine) (ms : Memories) → AreWithin code code' end_place (get_or sets end_place 0) (i ∷ is) (j ∷ js) e e' ms → IsOnward i e ms → IsOnward j e' ms → Related (effect i e ms).engine (effect j e' ms).engine ms
  in-on i j [] [] e e' ms a on on' =
      let place : (effect i e ms).engine.place ≡ (effect j e' ms).engine.place = on.next ∙ ap suc a.place ∙ sym on'.next in
      let end : (effect i e ms).engine.place ≡ end_place = let rest = a.rest in let next = on.next in omega arith in
      inl (record {
        engine = keeps-engine i e ms (r.lawful e.place i a.lies.0) a.engine a.sizes;
        engine' = keeps-engine j e' ms (r.lawful' e'.place j a.lies'.0) a.engine' a.sizes;
        sizes = a.sizes;
        place = place;
        outside = inr (omega arith);
        agree = subst (λ n. AgreeOn (get_or sets n 0) (effect i e ms).engine (effect j e' ms).engine) (sym end) a.agree;
      })
  in-on i j [] (j2 ∷ js) e e' ms a on on' = absurd (let even = a.even in omega arith)
  in-on i j (i2 ∷ is) [] e e' ms a on on' = absurd (let even = a.even in omega arith)
  in-on i j (i2 ∷ is) (j2 ∷ js) e e' ms a on on' = inr (
    i2 ∷ is,
    j2 ∷ js,
    record {
      engine = keeps-engine i e ms (r.lawful e.place i a.lies.0) a.engine a.sizes;
      engine' = keeps-engine j e' ms (r.lawful' e'.place j a.lies'.0) a.engine' a.sizes;
      sizes = a.sizes;
      place = on.next ∙ ap suc a.place ∙ sym on'.next;
      some = omega arith;
      even = let even = a.even in omega arith;
      rest = let rest = a.rest in let next = on.next in omega arith;
      lies = subst (λ n. Lies code n (i2 ∷ is)) (sym on.next) a.lies.1.1;
      lies' = subst (λ n. Lies code' n (j2 ∷ js)) (sym on'.next) a.lies'.1.1;
      agree = a.agree;
    },
  )

  in-both : (is js : List Instr) (e e' : Engine) (ms : Memories) → AreWithin code code' end_place (get_or sets end_place 0) is js e e' ms → StepsAlike code code' ms e e' × Related (step code e ms).engine (step code' e' ms).engine (step code e ms).packet
  in-both [] js e e' ms a = absurd (let some = a.some in omega arith)
  in-both (i ∷ is) [] e e' ms a = absurd (let even = a.even in omega arith)
  in-both (i ∷ is) (j ∷ js) e e' ms a =
      let on = onward i e.place e ms refl a.lies.1.0 in
      let on' = onward j e'.place e' ms refl a.lies'.1.0 in (
        in-alike i j e e' ms a.place a.lies.0 a.lies'.0 on on',
        related-by (effect i e ms).engine (effect j e' ms).engine _ _ ms _ (ap (λ o. (step_at o e ms).engine) a.lies.0) (ap (λ o. (step_at o e' ms).engine) a.lies'.0) (ap (λ o. (step_at o e ms).packet) a.lies.0 ∙ ap (λ (n : Next). n.packet) on.does) (in-on i j is js e e' ms a on on'),
      )

  related-alike : (e e' : Engine) (ms : Memories) → Related e e' ms → StepsAlike code code' ms e e'
  related-alike e e' ms (inl a) = out-alike e e' ms (slice_get code e.place) refl (ap (slice_get code') (sym a.place) ∙ r.outside e.place a.outside) a
  related-alike e e' ms (inr (is, js, a)) = (in-both is js e e' ms a).0

  related-stays : (e e' : Engine) (ms : Memories) → Related e e' ms → Related (step code e ms).engine (step code' e' ms).engine (step code e ms).packet
  related-stays e e' ms (inl a) = out-stays e e' ms (slice_get code e.place) refl (ap (slice_get code') (sym a.place) ∙ r.outside e.place a.outside) a
  related-stays e e' ms (inr (is, js, a)) = (in-both is js e e' ms a).1

  -- from the first place on, whatever the registers hold, the two codes run in step
  pub rewrite-alike : (e : Engine) (ms : Memories) → IsEngine e → HasSizes ms → e.place ≡ 0 → RunsAlike code code' ms e e
  rewrite-alike e ms h sizes at = lockstep code code' Related related-alike related-stays e e ms (arrive e e ms h h sizes refl (inl (omega arith)) (record { by = λ s spot t. refl }))
