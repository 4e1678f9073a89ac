-- Contexts whose code does what a source says: what is over is over as the source is, and each keeps to the slots of its base.
use Rattle.std.proofs.Common.{◌≡◌, ℕ, zero, suc, ◌+◌, ◌≤◌, ◌<◌, ◌⊎◌, inl, inr, List, [], ◌∷◌, All, Some, None, length, take, drop, map, refl, ap, sym, subst, ◌∙◌, arith}
use Rattle.std.specs.Prelude.{Option, slice_get}
use Rattle.std.proofs.lemmas.List.Elements.{All-get_or}
use Rattle.std.proofs.lemmas.Option.{get_or_from_slice_get, slice_get_within}
use Rattle.nv_base.specs.declared.term.Mem.{Mem}
use Rattle.nv_base.specs.declared.term.Mem.TheVariants.{Sram, Sdram, Scratch}
use Rattle.nv_base.specs.Log.{empty_log, noted_all}
use Rattle.nv_base.specs.Memories.{Memories, HasSizes, source_scratch, stored, fetched}
use Rattle.nv_base.specs.Meanings.{AreArguments, FullOutcome, IsOver, source_writes}
use Rattle.uc_isa.specs.Agrees.{Agrees, IsStart, KeepsToItsWords, SourceMeaning, scratch_access}
use Rattle.uc_isa.specs.Code.{CodeView}
use Rattle.uc_isa.specs.Lawful.{IsLawful}
use Rattle.uc_isa.specs.Step.{address, after_write, after_read, step_at, write_registers}
use Rattle.uc_isa.specs.declared.engine.Engine.{Engine}
use Rattle.uc_isa.specs.declared.engine.Stepped.{Stepped}
use Rattle.uc_isa.specs.declared.engine.Stepped.TheVariants.{Went, Wrote, Halted, Fault}
use Rattle.uc_isa.specs.declared.instruction.Gpr.{Gpr}
use Rattle.uc_isa.specs.declared.instruction.Instr.{Instr}
use Rattle.uc_isa.specs.declared.instruction.Instr.TheVariants.{Alu, Un, Immed, Br, Read, Write, Halt}
use Rattle.uc_contexts.specs.declared.state.Context.{Context}
use Rattle.uc_contexts.specs.Alone.{AreDisjoint, left_alone, lone_runs, own_entries, runs_from}
use Rattle.uc_contexts.specs.AsSource.{DidAsSource, EndAsSource, Reaches, ShareNoSlot}
use Rattle.uc_contexts.specs.Footprints.{Isolated, IsTouched, lone_outcome, moment, step_of, to_read, was_read, was_written}
use Rattle.uc_contexts.specs.Turns.{System, base_of, kept_writes, scheduled, started}
use Rattle.uc_contexts.proofs.Entries.{scheduled-alone}

-- ---- ends

-- what a context with this number runs alone
abbrev run_of : List ℕ → ℕ → List ℕ → Isolated
run_of schedule i words = record { args = words; base = base_of i; steps = own_entries i schedule }

context-of : (c : CodeView) (p : Memories) (schedule : List ℕ) (k : ℕ) (args : List (List ℕ)) (i : ℕ) (words : List ℕ) → slice_get args i ≡ Some words
    → slice_get (map (left_alone c p) (runs_from schedule k args)) i ≡ Some (left_alone c p (run_of schedule (k + i) words))
context-of c p schedule k [] i words is = cc
context-of c p schedule k (a ∷ more) zero words is =
    let same : a ≡ words = cc in
    let here : k ≡ k + 0 = omega arith in
    ap (λ ws. Some (left_alone c p (run_of schedule k ws))) same ∙ ap (λ j. Some (left_alone c p (run_of schedule j words))) here
context-of c p schedule k (a ∷ more) (suc i) words is =
    let there : suc k + i ≡ k + suc i = omega arith in
    context-of c p schedule (suc k) more i words is ∙ ap (λ j. Some (left_alone c p (run_of schedule j words))) there

some-same : (x y : Context) → Some x ≡ Some y → x ≡ y
some-same x y e = cc

words-of : (params : ℕ) (args : List (List ℕ)) (i : ℕ) (words : List ℕ) → All (AreArguments params) args → slice_get args i ≡ Some words → AreArguments params words
words-of params args i words each is =
    subst (AreArguments params) (get_or_from_slice_get args i words words is) (All-get_or (AreArguments params) args i words (slice_get_within args i words is) each)

base-low : (i : ℕ) → i < 4 → (source_scratch ≤ base_of i) × (base_of i ≤ 896)
base-low i lt = (omega arith, omega (arith, lt))

-- a run that is over is the source's
over-as-source : (params : ℕ) (source : SourceMeaning) (c : CodeView) (p : Memories) (run : Isolated) (x : Context) → Agrees params source c → IsStart params run.args p run.base → x ≡ left_alone c p run → IsOver x.outcome → DidAsSource source run.args p x
over-as-source params source c p run x agrees start same over =
    let end = (agrees.same run.args p run.base start).ends_only run.steps (subst (λ (y : Context). IsOver y.outcome) same over) in
    record {
      calls = end.0;
      outcome = ap (λ (y : Context). y.outcome) same ∙ sym (ap (λ (f : FullOutcome). f.outcome) end.1);
      log = ap (λ (y : Context). y.log) same ∙ sym (ap (λ (f : FullOutcome). noted_all (empty_log kept_writes) f.writes) end.1);
    }

pub end_as_source : EndAsSource
end_as_source params source c p schedule args lawful agrees sizes few each disjoint i words x is there over =
    let all = scheduled-alone c p schedule args lawful disjoint in
    let run = run_of schedule i words in
    let zero_more : 0 + i ≡ i = omega arith in
    let here : slice_get (scheduled c.list schedule (record { contexts = started args; packet = p })).contexts i ≡ Some (left_alone c p run) =
    ap (λ (s : System). slice_get s.contexts i) all ∙ context-of c p schedule 0 args i words is ∙ ap (λ j. Some (left_alone c p (run_of schedule j words))) zero_more in
    let inside : i < length args = slice_get_within args i words is in
    over-as-source params source c p run x agrees (record { words = words-of params args i words each is; memories = sizes; spills = base-low i (omega (arith, inside, few)) })
    (some-same x (left_alone c p run) (sym there ∙ here)) over

-- ---- slots

-- a word that is touched lies in the access
touched-read : (base a : ℕ) (o : Option Instr) (e : Engine) (s : Stepped) → source_scratch ≤ a → KeepsToItsWords base (scratch_access o e) → IsTouched (was_read (to_read o e) s) Scratch a → (base ≤ a) × (a < base + 128)
touched-read base a (Some (Read Scratch r n x off)) e Went le keeps t =
    let from : address x e + off ≤ a = t.1.0 in
    let to : a < address x e + off + n = t.1.1 in
    let past : source_scratch < address x e + off + n = omega (arith, le, to) in
    let own = keeps past in
    (omega (arith, from, own.0), omega (arith, to, own.1))
touched-read base a (Some (Read Sram r n x off)) e Went le keeps t = absurd (let same : Sram ≡ Scratch = t.0 in cc)
touched-read base a (Some (Read Sdram r n x off)) e Went le keeps t = absurd (let same : Sdram ≡ Scratch = t.0 in cc)
touched-read base a (Some (Read m r n x off)) e (Wrote w) le keeps t = absurd t
touched-read base a (Some (Read m r n x off)) e (Halted k ws) le keeps t = absurd t
touched-read base a (Some (Read m r n x off)) e (Fault m' at) le keeps t = absurd t
touched-read base a (Some (Alu d op x y)) e s le keeps t = absurd t
touched-read base a (Some (Un d op x)) e s le keeps t = absurd t
touched-read base a (Some (Immed d v k)) e s le keeps t = absurd t
touched-read base a (Some (Br k to)) e s le keeps t = absurd t
touched-read base a (Some (Write m r n x off)) e s le keeps t = absurd t
touched-read base a (Some (Halt k n)) e s le keeps t = absurd t
touched-read base a None e s le keeps t = absurd t

-- a write has at most as many words as its instruction says
written-few : (m : Mem) (at n : ℕ) (ws : List ℕ) (a : ℕ) (o : Option Memories) (e : Engine) (p : Memories) → length ws ≤ n → IsTouched (was_written (after_write m at ws o e p).stepped) Scratch a
    → (m ≡ Scratch) × (at ≤ a) × (a < at + n)
written-few Scratch at n ws a (Some q) e p few t = let from : at ≤ a = t.1.0 in let to : a < at + length ws = t.1.1 in (refl, from, omega (arith, few, to))
written-few Sram at n ws a (Some q) e p few t = absurd (let same : Sram ≡ Scratch = t.0 in cc)
written-few Sdram at n ws a (Some q) e p few t = absurd (let same : Sdram ≡ Scratch = t.0 in cc)
written-few m at n ws a None e p few t = absurd t

taken-few : (n : ℕ) (ws : List ℕ) → length (take n ws) ≤ n
taken-few zero ws = omega arith
taken-few (suc n) [] = omega arith
taken-few (suc n) (w ∷ ws) = let rest = taken-few n ws in omega (arith, rest)

no-read-writes : (m : Mem) (r at : ℕ) (o : Option (List ℕ)) (e : Engine) (p : Memories) (a : ℕ) → IsTouched (was_written (after_read m r at o e p).stepped) Scratch a → ⊥
no-read-writes m r at (Some ws) e p a t = t
no-read-writes m r at None e p a t = t

kept-write : (m : Mem) (base a r n at : ℕ) (i : Option (ℕ × ℕ)) → source_scratch ≤ a → m ≡ Scratch → (m ≡ Scratch → i ≡ Some (at, n)) → at ≤ a → a < at + n → KeepsToItsWords base i → (base ≤ a) × (a < base + 128)
kept-write m base a r n at i le is access from to keeps =
    let own = subst (KeepsToItsWords base) (access is) keeps (omega (arith, le, to)) in
    (omega (arith, from, own.0), omega (arith, to, own.1))

scratch-write : (m : Mem) (r n off : ℕ) (x : Gpr) (e : Engine) → m ≡ Scratch → scratch_access (Some (Write m r n x off)) e ≡ Some (address x e + off, n)
scratch-write Scratch r n off x e is = refl
scratch-write Sram r n off x e is = absurd cc
scratch-write Sdram r n off x e is = absurd cc

touched-written : (base a : ℕ) (o : Option Instr) (e : Engine) (p : Memories) → source_scratch ≤ a → KeepsToItsWords base (scratch_access o e) → IsTouched (was_written (step_at o e p).stepped) Scratch a → (base ≤ a) × (a < base + 128)
touched-written base a (Some (Write m r n x off)) e p le keeps t =
    let at = address x e + off in
    let ws = take n (drop r (write_registers m e)) in
    let in_access = written-few m at n ws a (stored m at ws p) e p (taken-few n (drop r (write_registers m e))) t in
    kept-write m base a r n at (scratch_access (Some (Write m r n x off)) e) le in_access.0 (scratch-write m r n off x e) in_access.1 in_access.2 keeps
touched-written base a (Some (Read m r n x off)) e p le keeps t = absurd (no-read-writes m r (address x e + off) (fetched m (address x e + off) n p) e p a t)
touched-written base a (Some (Alu d op x y)) e p le keeps t = absurd t
touched-written base a (Some (Un d op x)) e p le keeps t = absurd t
touched-written base a (Some (Immed d v k)) e p le keeps t = absurd t
touched-written base a (Some (Br k to)) e p le keeps t = absurd t
touched-written base a (Some (Halt k n)) e p le keeps t = absurd t
touched-written base a None e p le keeps t = absurd t

-- what a run reaches of scratch from 512 on is among the 128 words from its base on
reached-own : (params : ℕ) (source : SourceMeaning) (c : CodeView) (p : Memories) (x : Isolated) (a : ℕ) → Agrees params source c → IsStart params x.args p x.base → source_scratch ≤ a → Reaches c p x Scratch a → (x.base ≤ a) × (a < x.base + 128)
reached-own params source c p x a agrees start le (inl r) =
    let n = moment c p x r.0 in
    touched-read x.base a (slice_get c.list n.engine.place) n.engine (step_of c p x r.0) le (agrees.spills x.args p x.base start r.0) r.2
reached-own params source c p x a agrees start le (inr w) =
    let n = moment c p x w.0 in
    touched-written x.base a (slice_get c.list n.engine.place) n.engine n.packet le (agrees.spills x.args p x.base start w.0) w.2

bases-apart : (i j a : ℕ) → ¬ (i ≡ j) → (base_of i ≤ a) × (a < base_of i + 128) → (base_of j ≤ a) × (a < base_of j + 128) → ⊥
bases-apart i j a ne h k = ne (omega (arith, h.0, h.1, k.0, k.1))

pub share_no_slot : ShareNoSlot
share_no_slot params source c p i j x y agrees sx sy bx by ne a le rx = λ ry.
    bases-apart i j a ne
    (subst (λ b. (b ≤ a) × (a < b + 128)) bx (reached-own params source c p x a agrees sx le rx))
    (subst (λ b. (b ≤ a) × (a < b + 128)) by (reached-own params source c p y a agrees sy le ry))
