-- Code whose instructions read elsewhere does what it did.
use Rattle.std.proofs.Common.{◌≡◌, ℕ, zero, suc, ◌+◌, ◌-◌, ◌<◌, ◌≤◌, inl, inr, ⊎_elim, Bool, true, false, ◌||◌, List, [], ◌∷◌, length, get_or, Option, Some, None, refl, sym, ap, ◌∙◌, subst, arith}
use Rattle.std.specs.Prelude.{slice_get}
use Rattle.std.proofs.lemmas.Bool.{cases_lt, false≢true}
use Rattle.std.proofs.lemmas.Option.{slice_get_past, slice_get_within, slice_get-get_or}
use Rattle.nv_base.specs.Memories.{Memories, HasSizes}
use Rattle.uc_isa.specs.Engine.{IsEngine}
use Rattle.uc_isa.specs.Moves.{moves}
use Rattle.uc_isa.specs.Registers.{Register, target_register}
use Rattle.uc_isa.specs.Step.{Next, effect, step, step_at}
use Rattle.uc_isa.specs.declared.engine.Engine.{Engine}
use Rattle.uc_isa.specs.declared.instruction.Dst.{Dst}
use Rattle.uc_isa.specs.declared.instruction.Dst.TheVariants.{Nowhere}
use Rattle.uc_isa.specs.declared.instruction.Instr.{Instr}
use Rattle.uc_isa.specs.declared.instruction.Instr.TheVariants.{Alu, Un, Immed, Br, Read, Write, Halt}
use Rattle.uc_isa.proofs.Effects.{goes-on, keeps-engine, keeps-sizes, keeps-value}
use Rattle.uc_isa.proofs.Lockstep.{lockstep}
use Rattle.uc_isa.specs.Alike.{Begins, GoesOn, RunsAlike, StepsAlike}
use Rattle.uc_isa.specs.Program.{IsFormed, IsLawfulWithin, IsProgram}
use Rattle.uc_isa.specs.Resources.{IsNext, IsResource, Live, Resource, is_flag, is_target, reads, value, writes}
use Rattle.uc_isa.specs.Resources.Live.{Needs, Passes}
use Rattle.uc_isa.specs.Resources.Resource.{In, Zero, Carry}
use Rattle.uc_isa.specs.Starts.{AreInside}
use Rattle.uc_isa.specs.StraightCode.{IsStraight}
use Rattle.uc_isa.specs.Visits.{access}
use Rattle.uc_peep.proofs.Sound.{free}
use Rattle.uc_peep.proofs.WindowRuns.{IsOnward, onward}
use Rattle.uc_peep.specs.Liveness.{IsClosed, IsLiveAt}
use Rattle.uc_peep.specs.Needless.{has_register, is_wanted}
use Rattle.uc_peep.specs.Sets.{has}
use Rattle.uc_peep_facts.specs.Facts.{AllStand, AreKept, AreLike, DoesSame, IsOneOf, SetsFlags, known_at, with_target}
use Rattle.uc_peep_facts.specs.Elsewhere.{AreReread, HasNoIdleTarget, IsSourced, Rereads}
use Rattle.uc_peep_facts.specs.inner.Operands.{ArePut, IsInPlace, IsReread, IsUntargeted}
use Rattle.uc_peep_facts.specs.Elsewhere.AreReread.{Nothing, Each}
use Rattle.uc_peep_facts.specs.Elsewhere.Rereads.{InTurn}
use Rattle.uc_peep_facts.specs.declared.fact.Fact.{Fact}
use Rattle.uc_peep_facts.specs.declared.fact.Facts.{Facts}
use Rattle.uc_peep_facts.proofs.InStep.{IsInStep, runs-in-step}
use Rattle.uc_peep_facts.proofs.Lighter.{moves-lighter}
use Rattle.uc_peep_facts.proofs.SameWords.{rereads-last, rereads-target}
use Rattle.uc_peep_facts.proofs.Standing.{flags-same, target-formed}
use Rattle.uc_peep_facts.proofs.Thinned.{does-itself}

-- ---- one place

-- without its target it leaves the rest
untarget : (sets : List ℕ) (x : ℕ) (d : Dst) (i : Instr) (e : Engine) (p : Memories) → IsFormed i → IsStraight i → IsStraight (with_target Nowhere i) → IsEngine e → HasSizes p → e.place ≡ x → is_wanted d (get_or sets (suc x) 0) ≡ false
    → ((r : Register) → is_target d (In r) ≡ false → (writes i (In r) ≡ false) × (writes (with_target Nowhere i) (In r) ≡ false)) → writes (with_target Nowhere i) Zero ≡ true → writes (with_target Nowhere i) Carry ≡ true
    → AreLike sets (effect i e p) (effect (with_target Nowhere i) e p) × (access (Some i) e ≡ access (Some (with_target Nowhere i)) e)
untarget sets x d i e p formed straight straight' h sizes at free-target none zero-set carry-set =
    let on : IsOnward i e p = onward i x e p at (inl straight) in
    let on' : IsOnward (with_target Nowhere i) e p = onward (with_target Nowhere i) x e p at (inl straight') in
    let to : (effect i e p).engine.place ≡ suc x = on.next ∙ ap suc at in (
      record {
        stepped = ap (λ (n : Next). n.stepped) on.does ∙ sym (ap (λ (n : Next). n.stepped) on'.does);
        packet = ap (λ (n : Next). n.packet) on.does ∙ sym (ap (λ (n : Next). n.packet) on'.does);
        place = on.next ∙ sym on'.next;
        agree = record { by = λ s spot there. by s spot (ap (λ n. has (get_or sets n 0) s) (sym to) ∙ there) };
      },
      on.access ∙ sym on'.access,
    )
  where
    by : (s : Resource) → IsResource s → has (get_or sets (suc x) 0) s ≡ true → value s (effect i e p).engine ≡ value s (effect (with_target Nowhere i) e p).engine
    by (In r) spot there =
        let n = none r (free d (get_or sets (suc x) 0) (In r) free-target there) in
        keeps-value i e p (In r) formed h sizes n.0 ∙ sym (keeps-value (with_target Nowhere i) e p (In r) (target-formed Nowhere i formed) h sizes n.1)
    by Zero spot there = sym (flags-same Nowhere i e p Zero refl zero-set)
    by Carry spot there = sym (flags-same Nowhere i e p Carry refl carry-set)

untarget-by : (facts : List Fact) (sets : List ℕ) (x : ℕ) (i : Instr) (d : Dst) → IsFormed i → SetsFlags i d → is_wanted d (get_or sets (suc x) 0) ≡ false → DoesSame facts sets x i (with_target Nowhere i)
untarget-by facts sets x (Alu c op y z) d formed at-d free-target e p h sizes at stand = untarget sets x d (Alu c op y z) e p formed tt tt h sizes at free-target (λ r t. (ap (λ o. is_target o (In r)) at-d ∙ t, refl)) refl refl
untarget-by facts sets x (Un c op y) d formed at-d free-target e p h sizes at stand = untarget sets x d (Un c op y) e p formed tt tt h sizes at free-target (λ r t. (ap (λ o. is_target o (In r)) at-d ∙ t, refl)) refl refl
untarget-by facts sets x (Immed c v k) d formed at-d free-target e p h sizes at stand = absurd at-d
untarget-by facts sets x (Br b t) d formed at-d free-target e p h sizes at stand = absurd at-d
untarget-by facts sets x (Read m r n y off) d formed at-d free-target e p h sizes at stand = absurd at-d
untarget-by facts sets x (Write m r n y off) d formed at-d free-target e p h sizes at stand = absurd at-d
untarget-by facts sets x (Halt k n) d formed at-d free-target e p h sizes at stand = absurd at-d

untargeted-does : (facts : List Fact) (sets : List ℕ) (x : ℕ) (i j : Instr) → IsFormed i → IsUntargeted (get_or sets (suc x) 0) i j → DoesSame facts sets x i j
untargeted-does facts sets x i j formed r = ⊎_elim
    (λ (e : j ≡ i). subst (DoesSame facts sets x i) (sym e) (does-itself facts sets x i))
    (λ (t : (d : Dst) × SetsFlags i d × (is_wanted d (get_or sets (suc x) 0) ≡ false) × (j ≡ with_target Nowhere i)). subst (DoesSame facts sets x i) (sym t.3) (untarget-by facts sets x i t.0 formed t.1 t.2))
    r.same

-- ---- all places

some-instr : (i j : Instr) → Some i ≡ Some j → i ≡ j
some-instr i j e = cc

reread-put : (code draft : List Instr) → length draft ≡ length code → ((x : ℕ) (i : Instr) → slice_get code x ≡ Some i → (j : Instr) × (slice_get draft x ≡ Some j) × Rereads i j) → AreReread code draft
reread-put [] [] size h = Nothing
reread-put [] (j ∷ draft) size h = absurd (omega arith)
reread-put (i ∷ code) [] size h = absurd (omega arith)
reread-put (i ∷ code) (j ∷ draft) size h =
    let k = h 0 i refl in
    let same : k.0 ≡ j = some-instr k.0 j (sym k.1) in
    Each i j code draft (subst (Rereads i) same k.2) (reread-put code draft (omega arith) (λ x l at. h (suc x) l at))

put-old : (P : ℕ → Instr → Instr → Type 0) (code draft : List Instr) → ArePut P code draft → (x : ℕ) (j : Instr) → slice_get draft x ≡ Some j → (i : Instr) × (slice_get code x ≡ Some i) × P x i j
put-old P code draft put x j at =
    let size = put.size in
    let lt = slice_get_within draft x j at in
    let some : slice_get code x ≡ Some (get_or code x (Halt 0 0)) = slice_get-get_or code x (Halt 0 0) (omega arith) in
    let k = put.each x (get_or code x (Halt 0 0)) some in
    let same : k.0 ≡ j = some-instr k.0 j (sym k.1 ∙ at) in
    (get_or code x (Halt 0 0), some, subst (P x (get_or code x (Halt 0 0))) same k.2)

put-past : (P : ℕ → Instr → Instr → Type 0) (code draft : List Instr) → ArePut P code draft → (x : ℕ) → slice_get code x ≡ None → slice_get draft x ≡ None
put-past P code draft put x none = ⊎_elim
    (λ (lt : x < length code). let some = slice_get-get_or code x (Halt 0 0) lt in absurd (cc))
    (λ (le : length code ≤ x). slice_get_past draft x (let s = put.size in omega arith))
    (cases_lt x (length code))

-- what is asked of an instruction that is put in the place of another, besides that the codes do the same
abbrev MayPut : (ℕ → Instr → Instr → Type 0) → Type 0
MayPut P = (x : ℕ) (i j : Instr) → P x i j → IsFormed j × Rereads i j

module _ (P : ℕ → Instr → Instr → Type 0) (may : MayPut P) (code draft : List Instr) (lawful : IsProgram code) (put : ArePut P code draft) where
  put-lawful : IsProgram draft
  put-lawful = record {
    some = let s = put.size in let m = lawful.some in omega arith;
    each = law;
  }
    where
      law : (x : ℕ) (j : Instr) → slice_get draft x ≡ Some j → IsLawfulWithin (length draft) x j
      law x j at =
          let old = put-old P code draft put x j at in
          let within = lawful.each x old.0 old.1 in
          let h = may x old.0 j old.2 in
          subst (λ n. IsLawfulWithin n x j) (sym put.size) (record {
            formed = h.0;
            target = rereads-target (length code) old.0 j h.1 within.target;
            last = λ end'. rereads-last old.0 j h.1 (within.last end');
          })

  -- where the codes run alike, the second one stands in the place of the first
  put-in-place : ((e : Engine) (p : Memories) → Begins e p → RunsAlike code draft p e e) → IsInPlace code draft
  put-in-place alike = record {
    size = put.size;
    lawful = put-lawful;
    reread = reread-put code draft put.size (λ x i at. let k = put.each x i at in (k.0, k.1, (may x i k.0 k.2).1));
    alike = alike;
  }

-- ---- instructions that do all the same where facts stand

module _ (code draft : List Instr) (table : List Facts) (lawful : IsProgram code) (kept : AreKept code table) (put : ArePut (λ x i j. IsReread (known_at table x) i j) code draft) where
  -- one engine in both runs, in which the facts of its place stand
  record IsOne (e e' : Engine) (p : Memories) : Type 0 where
    same : e ≡ e'
    engine : IsEngine e
    sizes : HasSizes p
    stand : AllStand e (known_at table e.place)

  module _ (e : Engine) (p : Memories) (engine : IsEngine e) (sizes : HasSizes p) (stand : AllStand e (known_at table e.place)) where
    same-at : (o : Option Instr) → slice_get code e.place ≡ o → (step code e p ≡ step draft e p) × (access (slice_get code e.place) e ≡ access (slice_get draft e.place) e)
    same-at None at =
        let none = put-past (λ x i j. IsReread (known_at table x) i j) code draft put e.place at in
        (ap (λ o. step_at o e p) (at ∙ sym none), ap (λ o. access o e) (at ∙ sym none))
    same-at (Some i) at =
        let k = put.each e.place i at in
        let both = k.2.same e p engine sizes stand in
        (ap (λ o. step_at o e p) at ∙ both.0 ∙ sym (ap (λ o. step_at o e p) k.1), ap (λ o. access o e) at ∙ both.1 ∙ sym (ap (λ o. access o e) k.1))

    onto : (i : Instr) → slice_get code e.place ≡ Some i → GoesOn i e p (effect i e p) → AllStand (effect i e p).engine (known_at table (effect i e p).engine.place)
    onto i at (inl (ends, same, memories)) = subst (λ (f : Engine). AllStand f (known_at table f.place)) (sym same) stand
    onto i at (inr (goes, next)) = kept.each e.place (effect i e p).engine.place i at next e p engine sizes stand

    next-at : (o : Option Instr) → slice_get code e.place ≡ o → (e' : Engine) → e' ≡ (step code e p).engine → IsOne (step code e p).engine e' (step code e p).packet
    next-at None at e' same = subst (λ (n : Next). IsOne n.engine e' n.packet) (sym (ap (λ o. step_at o e p) at)) (record { same = sym (same ∙ ap (λ o. (step_at o e p).engine) at); engine = engine; sizes = sizes; stand = stand })
    next-at (Some i) at e' same =
        let formed = (lawful.each e.place i at).formed in
        subst (λ (n : Next). IsOne n.engine e' n.packet) (sym (ap (λ o. step_at o e p) at)) (record {
          same = sym (same ∙ ap (λ o. (step_at o e p).engine) at);
          engine = keeps-engine i e p formed engine sizes;
          sizes = keeps-sizes i e p formed engine sizes;
          stand = onto i at (goes-on i e p);
        })

  one-steps : (e e' : Engine) (p : Memories) → IsOne e e' p → StepsAlike code draft p e e'
  one-steps e e' p h =
      let s = same-at e p h.engine h.sizes h.stand (slice_get code e.place) refl in
      subst (λ f. StepsAlike code draft p e f) h.same (record {
        place = refl;
        stepped = ap (λ (n : Next). n.stepped) s.0;
        packet = ap (λ (n : Next). n.packet) s.0;
        access = s.1;
      })

  one-stays : (e e' : Engine) (p : Memories) → IsOne e e' p → IsOne (step code e p).engine (step draft e' p).engine (step code e p).packet
  one-stays e e' p h =
      let s = same-at e p h.engine h.sizes h.stand (slice_get code e.place) refl in
      next-at e p h.engine h.sizes h.stand (slice_get code e.place) refl (step draft e' p).engine
      (ap (λ f. (step draft f p).engine) (sym h.same) ∙ sym (ap (λ (n : Next). n.engine) s.0))

  none-known : (x : ℕ) → x ≡ 0 → (f : Fact) → ¬ IsOneOf f (known_at table x)
  none-known x at f one =
      let e : known_at table x ≡ [] = ap (known_at table) at ∙ kept.first in
      let no' : None ≡ Some f = sym (ap (λ l. slice_get l one.0) e) ∙ one.1 in
      cc

  one-alike : (e : Engine) (p : Memories) → Begins e p → RunsAlike code draft p e e
  one-alike e p b = lockstep code draft IsOne one-steps one-stays e e p (record { same = refl; engine = b.engine; sizes = b.sizes; stand = λ f one. absurd (none-known e.place b.place f one) })

-- ---- the two passes

pub reread-in-place : (code draft : List Instr) (table : List Facts) → IsProgram code → AreKept code table → ArePut (λ x i j. IsReread (known_at table x) i j) code draft → IsInPlace code draft
reread-in-place code draft table lawful kept put =
    put-in-place (λ x i j. IsReread (known_at table x) i j) (λ x i j r. (r.formed, r.rereads)) code draft lawful put (one-alike code draft table lawful kept put)

none-kept : (draft : List Instr) → AreKept draft []
none-kept draft = record {
  first = refl;
  each = λ x y i at next e p h sizes stand f one. let no' : None ≡ Some f = one.1 in absurd (cc);
}

pub untargeted-in-place : (code draft : List Instr) (sets : List ℕ) → IsProgram code → IsClosed code sets → ArePut (λ x i j. IsUntargeted (get_or sets (x + 1) 0) i j) code draft → IsInPlace code draft
untargeted-in-place code draft sets lawful closed put =
    put-in-place (λ x i j. IsUntargeted (get_or sets (x + 1) 0) i j) (λ x i j r. (r.formed, r.rereads)) code draft lawful put (runs-in-step code draft sets [] step')
  where
    step' : IsInStep code draft sets []
    step' = record {
      formed = λ x i at. (lawful.each x i at).formed;
      formed' = λ x j at. (put-old (λ x i j. IsUntargeted (get_or sets (x + 1) 0) i j) code draft put x j at).2.formed;
      past = put-past (λ x i j. IsUntargeted (get_or sets (x + 1) 0) i j) code draft put;
      same = λ x i at.
          let k = put.each x i at in
          let one : x + 1 ≡ suc x = omega arith in
          (k.0, k.1, untargeted-does (known_at [] x) sets x i k.0 (lawful.each x i at).formed (subst (λ n. IsUntargeted (get_or sets n 0) i k.0) one k.2));
      closed = closed;
      kept = none-kept draft;
    }

pub untargeted-lighter : (code draft : List Instr) (sets starts ws : List ℕ) → ArePut (λ x i j. IsUntargeted (get_or sets (x + 1) 0) i j) code draft → moves draft starts ws ≤ moves code starts ws
untargeted-lighter code draft sets starts ws put = moves-lighter 0 code draft starts ws put.size (λ x i at. let k = put.each x i at in (k.0, k.1, k.2.light))

-- ---- what is live

reads-so : (live : ℕ) (i j : Instr) (s : Resource) → IsUntargeted live i j → (reads j s ≡ reads i s) × (writes i s ≡ false → writes j s ≡ false) × ((x y : ℕ) → IsNext i x y → IsNext j x y)
reads-so live i j s r = ⊎_elim
    (λ (e : j ≡ i). subst (λ k. (reads k s ≡ reads i s) × (writes i s ≡ false → writes k s ≡ false) × ((x y : ℕ) → IsNext i x y → IsNext k x y)) (sym e) (refl, λ w. w, λ x y n. n))
    (λ (t : (d : Dst) × SetsFlags i d × (is_wanted d live ≡ false) × (j ≡ with_target Nowhere i)).
    subst (λ k. (reads k s ≡ reads i s) × (writes i s ≡ false → writes k s ≡ false) × ((x y : ℕ) → IsNext i x y → IsNext k x y)) (sym t.3) (to-none i t.0 t.1))
    r.same
  where
    none-writes : (a b : Bool) → (a || b) ≡ false → (a || false) ≡ false
    none-writes false b h = refl
    none-writes true b h = absurd (false≢true (sym h))

    to-none : (i : Instr) (d : Dst) → SetsFlags i d → (reads (with_target Nowhere i) s ≡ reads i s) × (writes i s ≡ false → writes (with_target Nowhere i) s ≡ false) × ((x y : ℕ) → IsNext i x y → IsNext (with_target Nowhere i) x y)
    to-none (Alu c op y z) d h = (refl, λ w. none-writes (is_flag s) (is_target c s) w, λ x y n. n)
    to-none (Un c op y) d h = (refl, λ w. none-writes (is_flag s) (is_target c s) w, λ x y n. n)
    to-none (Immed c v k) d h = absurd h
    to-none (Br b t) d h = absurd h
    to-none (Read m r n y off) d h = absurd h
    to-none (Write m r n y off) d h = absurd h
    to-none (Halt k n) d h = absurd h

live-still : (code draft : List Instr) (sets : List ℕ) → ArePut (λ x i j. IsUntargeted (get_or sets (x + 1) 0) i j) code draft → (s : Resource) (x : ℕ) → Live code s x → Live draft s x
live-still code draft sets put s x (Needs i at read) =
    let k = put.each x i at in
    Needs k.0 k.1 ((reads-so _ i k.0 s k.2).0 ∙ read)
live-still code draft sets put s x (Passes i y at wrote next more) =
    let k = put.each x i at in
    let so = reads-so _ i k.0 s k.2 in
    Passes k.0 y k.1 (so.1 wrote) (so.2 x y next) (live-still code draft sets put s y more)

pub untargeted-settled : (code draft : List Instr) (sets : List ℕ) → ((x : ℕ) → IsLiveAt code x (get_or sets x 0)) → ArePut (λ x i j. IsUntargeted (get_or sets (x + 1) 0) i j) code draft → HasNoIdleTarget draft
untargeted-settled code draft sets live put x j d r at sets-flags target there =
    let old = put-old (λ x i j. IsUntargeted (get_or sets (x + 1) 0) i j) code draft put x j at in
    let one : x + 1 ≡ suc x = omega arith in
    ⊎_elim
    (λ (e : d ≡ Nowhere). let no' : None ≡ Some r = sym (ap target_register e) ∙ target in absurd (cc))
    (λ (w : is_wanted d (get_or sets (x + 1) 0) ≡ true).
    let has' : has (get_or sets (suc x) 0) (In r) ≡ true = sym (ap (has_register (get_or sets (suc x) 0)) target) ∙ ap (λ n. is_wanted d (get_or sets n 0)) (sym one) ∙ w in
    live-still code draft sets put (In r) (suc x) ((live (suc x) (In r) there).0 has'))
    (old.2.wanted d sets-flags)

-- ---- one after the other

reread-twice : (a b d : List Instr) → AreReread a b → AreReread b d → AreReread a d
reread-twice a b d Nothing Nothing = Nothing
reread-twice a b d (Each i j code code' h all) (Each j' k more more' g rest) = Each i k code more' (InTurn i j k h g) (reread-twice code code' more' all rest)

pub in-place-twice : (a b d : List Instr) → IsInPlace a b → IsInPlace b d → IsInPlace a d
in-place-twice a b d f g = record {
  size = g.size ∙ f.size;
  lawful = g.lawful;
  reread = reread-twice a b d f.reread g.reread;
  alike = λ e p begins.
      let x = f.alike e p begins in
      let y = g.alike e p begins in
      record {
        run = λ m ws. x.run m ws ∙ y.run m ws;
        place = λ m. x.place m ∙ y.place m;
        access = λ m. x.access m ∙ y.access m;
        stood = λ s m. x.stood s m ∙ y.stood s m;
      };
}

-- ---- what comes of it

reread-at : (code draft : List Instr) → AreReread code draft → (x : ℕ) (i : Instr) → slice_get code x ≡ Some i → (j : Instr) × (slice_get draft x ≡ Some j) × Rereads i j
reread-at a b Nothing x i at = let no' : None ≡ Some i = at in absurd (cc)
reread-at a b (Each i j code code' h all) zero k at = (j, refl, subst (λ l. Rereads l j) (some-instr i k at) h)
reread-at a b (Each i j code code' h all) (suc x) k at = reread-at code code' all x k at

pub sourced-by : (code : List Instr) (starts : List ℕ) (draft : List Instr) → AreInside code starts → IsInPlace code draft → ((ws : List ℕ) → moves draft starts ws ≤ moves code starts ws) → IsSourced code starts draft
sourced-by code starts draft inside h light = record {
  kept = record {
    lawful = h.lawful;
    count = refl;
    inside = λ k d lt. let s = h.size in let m = inside k d lt in omega arith;
    follows = record {
      gives = λ e p b m. (m, λ ws. (h.alike e p b).run m ws);
      gives_only = λ e p b m. (m, λ ws. (h.alike e p b).run m ws);
      access = λ e p b m. inr (m, (h.alike e p b).access m);
      access_only = λ e p b m. (m, (h.alike e p b).access m);
      visits = λ e p b m. (m, λ k lt. (h.alike e p b).stood (get_or starts k 0) m);
      visits_only = λ e p b m. (m, λ k lt. (h.alike e p b).stood (get_or starts k 0) m);
    };
    moves = light;
    shape = λ shape. record {
      first = shape.first;
      rises = shape.rises;
      before = λ k some lt.
          let b = shape.before k some lt in
          let j = reread-at code draft h.reread (get_or starts k 0 - 1) b.0 b.1 in
          (j.0, j.1, rereads-last b.0 j.0 j.2 b.2);
    };
    most = let s = h.size in omega arith;
  };
  reread = h.reread;
}
