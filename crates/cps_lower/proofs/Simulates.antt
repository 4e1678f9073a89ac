-- A term follows the flat code that it was made of.
use Rattle.std.proofs.Common.{◌≡◌, ℕ, zero, suc, ◌+◌, ◌≤◌, ◌<◌, ◌==◌, nat_eq, Bool, true, false, ◌||◌, List, [], ◌∷◌, ◌++◌, length, Option, Some, None, slice_get, if◌then◌else◌, refl, sym, ap, subst, ◌∙◌, arith}
use Rattle.std.proofs.lemmas.Bool.{eq-eqb, eqb-true, false≢true}
use Rattle.nv_base.specs.declared.term.Atom.{Atom}
use Rattle.nv_base.specs.declared.term.Mem.{Mem}
use Rattle.nv_base.specs.declared.outcome.Outcome.TheVariants as outcome
use Rattle.nv_base.specs.Memories.{Memories, fetched, stored}
use Rattle.nv_base.specs.Meanings.{FullOutcome}
use Rattle.nv_base.specs.Running.{Running}
use Rattle.nv_base.specs.Words.{Env, assigned, assigned_all, atom_word, atom_words, prim_word, compares}
use Rattle.nv_base.specs.World.{World, over, after_read, after_write, wrote}
use Rattle.flat_ir.specs.declared.flat.Flat.{Flat}
use Rattle.flat_ir.specs.declared.flat.Flat.TheVariants.{Let', Fetch', Store', If', Bind', Call, Raise, Try', Give}
use Rattle.flat_ir.specs.declared.flat.FlatFun.{FlatFun}
use Rattle.flat_ir.specs.Counts.{GivesMany}
use Rattle.flat_ir.specs.Formed as flat
use Rattle.flat_ir.specs.Meaning as source
use Rattle.flat_ir.specs.Running.{Result, Gives, Raises, Halts, and_then, handled, after_fetch, after_store}
use Rattle.flat_ir.proofs.Counted.{code-many}
use Rattle.flat_ir.proofs.FormedParts.{let-parts, fetch-parts, store-parts, if-parts, bind-parts, call-parts, try-parts}
use Rattle.cps_ir.specs.Meaning.{handler_of, Scope, Top, Bound, Frames, Frame, ToLabel, ToFun, Next, returned, or_label, thrown, does, at_body, enter_label, run}
use Rattle.cps_ir.specs.Term.{Handler, Term, Fun}
use Rattle.cps_lower.specs.inner.Lowered.{labels, one_label, give_term, raise_term, call_term, is_earlier, hands_on, lowered}

-- ---- where words and exceptions go

abbrev pub world_of : Running → World
world_of now = record { packet = now.packet; writes = now.writes }

abbrev pub given : Next → Option ℕ → List ℕ → Scope → Frames → World → FullOutcome
given next (Some l) ws sc fr w = next (ToLabel l ws sc fr) w
given next None ws sc fr w = returned next ws fr w

abbrev pub raised_to : Next → Option ℕ → ℕ → List ℕ → Scope → Frames → World → FullOutcome
raised_to next (Some l) e ws sc fr w = next (ToLabel l ws sc fr) w
raised_to next None e ws sc fr w = thrown next e ws fr w

-- the target goes on as the source came out
abbrev pub goes_on : Next → Option ℕ → List Handler → Scope → Frames → Result → FullOutcome
goes_on next k hs sc fr (Gives ws now) = given next k ws sc fr (world_of now)
goes_on next k hs sc fr (Raises e ws now) = raised_to next (handler_of e hs) e ws sc fr (world_of now)
goes_on next k hs sc fr (Halts how now) = over how (world_of now)

abbrev pub left_of : Result → ℕ
left_of (Gives ws now) = now.calls
left_of (Raises e ws now) = now.calls
left_of (Halts how now) = 0

-- of c calls no more are left at the end; and however many jumps j are to be left there, at least as many as calls,
-- there are some to begin with, at least c, with which the target comes to the same
pub record Follows (funs : List Fun) (k : Option ℕ) (hs : List Handler) (sc : Scope) (fr : Frames) (c : ℕ) (r : Result) (target : ℕ → FullOutcome) : Type 0 where
  pub spent : left_of r ≤ c
  pub by : (j : ℕ) → left_of r ≤ j → (i : ℕ) × (c ≤ i) × (target i ≡ goes_on (run funs j) k hs sc fr r)

-- a call gives and raises to the calls that wait
pub record CallsFollow (funs : List Fun) (depth : ℕ) (call : source.Calls) : Type 0 where
  pub by : (f : ℕ) (ws : List ℕ) (fr : Frames) (now : Running) → now.calls ≤ depth → Follows funs None [] Top fr now.calls (call f ws now) (λ i. run funs i (ToFun f ws fr) (world_of now))

-- ---- labels in use are below the next one

abbrev pub IsBelow : ℕ → Option ℕ → Type 0
IsBelow n (Some l) = l < n
IsBelow n None = Unit {0}

pub record AreBelow (n : ℕ) (k : Option ℕ) (hs : List Handler) : Type 0 where
  pub to : IsBelow n k
  pub handlers : (e : ℕ) → IsBelow n (handler_of e hs)

below_more : (n m : ℕ) (k : Option ℕ) → n ≤ m → IsBelow n k → IsBelow m k
below_more n m (Some l) le h = omega arith
below_more n m None le h = tt

are_more : (n m : ℕ) (k : Option ℕ) (hs : List Handler) → n ≤ m → AreBelow n k hs → AreBelow m k hs
are_more n m k hs le h = record { to = below_more n m k le h.to; handlers = λ e. below_more n m (handler_of e hs) le (h.handlers e) }

below_if : (n : ℕ) (b : Bool) (k l : Option ℕ) → IsBelow n k → IsBelow n l → IsBelow n (if b then k else l)
below_if n true k l h g = h
below_if n false k l h g = g

-- inside of a Bind and of a Try
below_bind : (n : ℕ) (k : Option ℕ) (hs : List Handler) → AreBelow n k hs → AreBelow (n + 1) (Some n) hs
below_bind n k hs h = record { to = omega arith; handlers = λ e. below_more n (n + 1) (handler_of e hs) (omega arith) (h.handlers e) }

below_try : (n e : ℕ) (k : Option ℕ) (hs : List Handler) → AreBelow n k hs → AreBelow (n + 1) k ((e, n) ∷ hs)
below_try n e k hs h = record {
  to = below_more n (n + 1) k (omega arith) h.to;
  handlers = λ x. below_if (n + 1) (nat_eq e x) (Some n) (handler_of x hs) (omega arith) (below_more n (n + 1) (handler_of x hs) (omega arith) (h.handlers x));
}

-- ---- the label that returns the words of last calls

-- label 0 gives m words to the calls that wait
pub record IsBack (funs : List Fun) (sc : Scope) (m : ℕ) : Type 0 where
  pub by : (ws : List ℕ) → length ws ≡ m → (j : ℕ) (fr : Frames) (w : World) → run funs (suc j) (ToLabel 0 ws sc fr) w ≡ returned (run funs j) ws fr w

-- where last calls hand their words on, that label is there
abbrev pub Backs : List Fun → Option ℕ → Bool → ℕ → Scope → ℕ → Type 0
Backs funs (Some l) b n sc m = Unit {0}
Backs funs None true n sc m = (1 ≤ n) × IsBack funs sc m
Backs funs None false n sc m = Unit {0}

backs_left : (funs : List Fun) (k : Option ℕ) (b c : Bool) (n : ℕ) (sc : Scope) (m : ℕ) → Backs funs k (b || c) n sc m → Backs funs k b n sc m
backs_left funs (Some l) b c n sc m h = tt
backs_left funs None true c n sc m h = h
backs_left funs None false c n sc m h = tt

backs_right : (funs : List Fun) (k : Option ℕ) (b c : Bool) (n : ℕ) (sc : Scope) (m : ℕ) → Backs funs k (b || c) n sc m → Backs funs k c n sc m
backs_right funs (Some l) b c n sc m h = tt
backs_right funs None true true n sc m h = h
backs_right funs None false true n sc m h = h
backs_right funs None true false n sc m h = tt
backs_right funs None false false n sc m h = tt

backs_more : (funs : List Fun) (k : Option ℕ) (b : Bool) (n n' : ℕ) (sc : Scope) (m : ℕ) → n ≤ n' → Backs funs k b n sc m → Backs funs k b n' sc m
backs_more funs (Some l) b n n' sc m le h = tt
backs_more funs None true n n' sc m le h = let x : 1 ≤ n = h.0 in (omega arith, h.1)
backs_more funs None false n n' sc m le h = tt

-- ---- a jump passes over a new label, and lands at it

passes : (funs : List Fun) (j n l : ℕ) → l < n → (ws xs : List ℕ) (t : Term) (env : Env) (sc : Scope) (fr : Frames) (w : World) → run funs j (ToLabel l ws (Bound (one_label n xs t) env sc) fr) w ≡ run funs j (ToLabel l ws sc fr) w
passes funs zero n l lt ws xs t env sc fr w = refl
passes funs (suc j) n l lt ws xs t env sc fr w =
    let e : nat_eq n l ≡ false = grind arith in
    ap (λ b. at_body (run funs j) (if b then Some (record { params = xs; term = t }) else None) env (Bound (one_label n xs t) env sc) ws fr w (enter_label (run funs j) l ws sc fr w)) e

given_passes : (funs : List Fun) (j n : ℕ) (k : Option ℕ) → IsBelow n k → (ws xs : List ℕ) (t : Term) (env : Env) (sc : Scope) (fr : Frames) (w : World) → given (run funs j) k ws (Bound (one_label n xs t) env sc) fr w ≡ given (run funs j) k ws sc fr w
given_passes funs j n (Some l) lt ws xs t env sc fr w = passes funs j n l lt ws xs t env sc fr w
given_passes funs j n None lt ws xs t env sc fr w = refl

raised_passes : (funs : List Fun) (j n : ℕ) (o : Option ℕ) → IsBelow n o → (e : ℕ) (ws xs : List ℕ) (t : Term) (env : Env) (sc : Scope) (fr : Frames) (w : World) → raised_to (run funs j) o e ws (Bound (one_label n xs t) env sc) fr w ≡ raised_to (run funs j) o e ws sc fr w
raised_passes funs j n (Some l) lt e ws xs t env sc fr w = passes funs j n l lt ws xs t env sc fr w
raised_passes funs j n None lt e ws xs t env sc fr w = refl

goes_passes : (funs : List Fun) (j n : ℕ) (k : Option ℕ) (hs : List Handler) → AreBelow n k hs → (xs : List ℕ) (t : Term) (env : Env) (sc : Scope) (fr : Frames) (r : Result) → goes_on (run funs j) k hs (Bound (one_label n xs t) env sc) fr r ≡ goes_on (run funs j) k hs sc fr r
goes_passes funs j n k hs below xs t env sc fr (Gives ws now) = given_passes funs j n k below.to ws xs t env sc fr (world_of now)
goes_passes funs j n k hs below xs t env sc fr (Raises e ws now) = raised_passes funs j n (handler_of e hs) (below.handlers e) e ws xs t env sc fr (world_of now)
goes_passes funs j n k hs below xs t env sc fr (Halts how now) = refl

lands : (funs : List Fun) (j n : ℕ) (ws xs : List ℕ) (t : Term) (env : Env) (sc : Scope) (fr : Frames) (w : World) → run funs (suc j) (ToLabel n ws (Bound (one_label n xs t) env sc) fr) w ≡ does (run funs j) t (assigned_all env xs ws) (Bound (one_label n xs t) env sc) fr w
lands funs j n ws xs t env sc fr w =
    ap (λ b. at_body (run funs j) (if b then Some (record { params = xs; term = t }) else None) env (Bound (one_label n xs t) env sc) ws fr w (enter_label (run funs j) n ws sc fr w)) (eq-eqb n n refl)

-- a new label hides the one that returns words from nobody
backs_bound : (funs : List Fun) (k : Option ℕ) (b : Bool) (n n' : ℕ) (sc : Scope) (m : ℕ) (xs : List ℕ) (t : Term) (env : Env) → n ≤ n' → Backs funs k b n sc m → Backs funs k b n' (Bound (one_label n xs t) env sc) m
backs_bound funs (Some l) b n n' sc m xs t env le h = tt
backs_bound funs None true n n' sc m xs t env le h =
    let first : 1 ≤ n = h.0 in
    (omega arith, record { by = λ ws e j fr w. passes funs (suc j) n 0 (omega arith) ws xs t env sc fr w ∙ h.1.by ws e j fr w })
backs_bound funs None false n n' sc m xs t env le h = tt

-- ---- the nodes

follows_if : {funs : List Fun} {k : Option ℕ} {hs : List Handler} {sc : Scope} {fr : Frames} {c : ℕ} (b : Bool) (r s : Result) (f g : ℕ → FullOutcome) → Follows funs k hs sc fr c r f → Follows funs k hs sc fr c s g → Follows funs k hs sc fr c (if b then r else s) (λ i. if b then f i else g i)
follows_if true r s f g h l = h
follows_if false r s f g h l = l

follows_fetch : {funs : List Fun} {k : Option ℕ} {hs : List Handler} {sc : Scope} {fr : Frames} {c : ℕ} (o : Option (List ℕ)) (m : Mem) (at : ℕ) (now : Running) (go : List ℕ → Result) (target : ℕ → List ℕ → FullOutcome) → ((ws : List ℕ) → Follows funs k hs sc fr c (go ws) (λ i. target i ws)) → Follows funs k hs sc fr c (after_fetch m at o now go) (λ i. after_read o (over (outcome.Fault m at) (world_of now)) (target i))
follows_fetch (Some ws) m at now go target h = h ws
follows_fetch {c = c} None m at now go target h = record { spent = omega arith; by = λ j le. (c, omega arith, refl) }

follows_store : {funs : List Fun} {k : Option ℕ} {hs : List Handler} {sc : Scope} {fr : Frames} {c : ℕ} (o : Option Memories) (m : Mem) (at : ℕ) (ws : List ℕ) (now : Running) (go : Running → Result) (target : ℕ → World → FullOutcome) → now.calls ≡ c → ((next : Running) → next.calls ≡ c → Follows funs k hs sc fr c (go next) (λ i. target i (world_of next))) → Follows funs k hs sc fr c (after_store m at ws o now go) (λ i. after_write o (over (outcome.Fault m at) (world_of now)) (λ p. target i (wrote m at ws p (world_of now))))
follows_store (Some p) m at ws now go target e h = h (record { calls = now.calls; packet = p; writes = now.writes ++ record { mem = m; at = at; words = ws } ∷ [] }) e
follows_store {c = c} None m at ws now go target e h = record { spent = omega arith; by = λ j le. (c, omega arith, refl) }

raise_runs : (funs : List Fun) (j : ℕ) (o : Option ℕ) (e : ℕ) (bs : List Atom) (env : Env) (sc : Scope) (fr : Frames) (w : World) → does (run funs j) (raise_term o e bs) env sc fr w ≡ raised_to (run funs j) o e (atom_words env bs) sc fr w
raise_runs funs j (Some l) e bs env sc fr w = refl
raise_runs funs j None e bs env sc fr w = refl

give_runs : (funs : List Fun) (j : ℕ) (k : Option ℕ) (bs : List Atom) (env : Env) (sc : Scope) (fr : Frames) (w : World) → does (run funs j) (give_term k bs) env sc fr w ≡ given (run funs j) k (atom_words env bs) sc fr w
give_runs funs j (Some l) bs env sc fr w = refl
give_runs funs j None bs env sc fr w = refl

-- what follows a first part, at its label
abbrev pub Rests : List Fun → Option ℕ → List Handler → Frames → ℕ → ℕ → List ℕ → Term → Env → Scope → (List ℕ → Running → Result) → Type 0
Rests funs k hs fr c n xs t env sc go = (ws : List ℕ) (now : Running) → now.calls ≤ c → Follows funs k hs (Bound (one_label n xs t) env sc) fr now.calls (go ws now) (λ i. does (run funs i) t (assigned_all env xs ws) (Bound (one_label n xs t) env sc) fr (world_of now))

-- from where a label is entered on
rest_follows : (funs : List Fun) (k : Option ℕ) (hs : List Handler) (sc : Scope) (fr : Frames) (c n : ℕ) (xs ws : List ℕ) (t : Term) (env : Env) → AreBelow n k hs → (now : Running) (r : Result) (target : ℕ → FullOutcome) → now.calls ≤ c → ((j : ℕ) → now.calls ≤ j → (i : ℕ) × (c ≤ i) × (target i ≡ run funs j (ToLabel n ws (Bound (one_label n xs t) env sc) fr) (world_of now)))
    → Follows funs k hs (Bound (one_label n xs t) env sc) fr now.calls r (λ i. does (run funs i) t (assigned_all env xs ws) (Bound (one_label n xs t) env sc) fr (world_of now)) → Follows funs k hs sc fr c r target
rest_follows funs k hs sc fr c n xs ws t env below now r target le first second = record {
  spent = let s = second.spent in omega arith;
  by = λ j lt.
      let b = second.by j lt in
      let a = first (suc b.0) (let x = b.1 in omega arith) in
      (a.0, a.1, a.2 ∙ lands funs b.0 n ws xs t env sc fr (world_of now) ∙ b.2 ∙ goes_passes funs j n k hs below xs t env sc fr r);
}

-- the first part of a Bind by what it comes to
bind_follows : (funs : List Fun) (k : Option ℕ) (hs : List Handler) (sc : Scope) (fr : Frames) (c n : ℕ) (xs : List ℕ) (t : Term) (env : Env) → AreBelow n k hs → (r : Result) (go : List ℕ → Running → Result) (target : ℕ → FullOutcome) → Follows funs (Some n) hs (Bound (one_label n xs t) env sc) fr c r target → Rests funs k hs fr c n xs t env sc go → Follows funs k hs sc fr c (and_then r go) target
bind_follows funs k hs sc fr c n xs t env below (Gives ws now) go target h next = rest_follows funs k hs sc fr c n xs ws t env below now (go ws now) target h.spent h.by (next ws now h.spent)
bind_follows funs k hs sc fr c n xs t env below (Raises e ws now) go target h next = record {
  spent = h.spent;
  by = λ j le. let a = h.by j le in (a.0, a.1, a.2 ∙ raised_passes funs j n (handler_of e hs) (below.handlers e) e ws xs t env sc fr (world_of now));
}
bind_follows funs k hs sc fr c n xs t env below (Halts how now) go target h next = record { spent = h.spent; by = λ j le. h.by j le }

-- an exception in the body of a Try, by whether it is the handler's
caught_follows : (funs : List Fun) (k : Option ℕ) (hs : List Handler) (sc : Scope) (fr : Frames) (c n x : ℕ) (b b' : Bool) → b' ≡ b → (xs ws : List ℕ) (t : Term) (env : Env) → AreBelow n k hs → (now : Running) (r : Result) (target : ℕ → FullOutcome) → now.calls ≤ c → ((j : ℕ) → now.calls ≤ j → (i : ℕ) × (c ≤ i) × (target i ≡ raised_to (run funs j) (if b' then Some n else handler_of x hs) x ws (Bound (one_label n xs t) env sc) fr (world_of now)))
    → Follows funs k hs (Bound (one_label n xs t) env sc) fr now.calls r (λ i. does (run funs i) t (assigned_all env xs ws) (Bound (one_label n xs t) env sc) fr (world_of now)) → Follows funs k hs sc fr c (if b then r else Raises x ws now) target
caught_follows funs k hs sc fr c n x true true e xs ws t env below now r target le h second = rest_follows funs k hs sc fr c n xs ws t env below now r target le h second
caught_follows funs k hs sc fr c n x false false e xs ws t env below now r target le h second = record {
  spent = le;
  by = λ j lt. let a = h j lt in (a.0, a.1, a.2 ∙ raised_passes funs j n (handler_of x hs) (below.handlers x) x ws xs t env sc fr (world_of now));
}
caught_follows funs k hs sc fr c n x true false e xs ws t env below now r target le h second = absurd (false≢true e)
caught_follows funs k hs sc fr c n x false true e xs ws t env below now r target le h second = absurd (false≢true (sym e))

number-sym : (x y : ℕ) → nat_eq x y ≡ (y == x)
number-sym x y = at (nat_eq x y) (y == x) (λ e. eq-eqb y x (sym (eqb-true x y e))) (λ e. eq-eqb x y (sym (eqb-true y x e)))
  where
    at : (b c : Bool) → (b ≡ true → c ≡ true) → (c ≡ true → b ≡ true) → b ≡ c
    at true c h g = sym (h refl)
    at false true h g = g refl
    at false false h g = refl

try_follows : (funs : List Fun) (k : Option ℕ) (hs : List Handler) (sc : Scope) (fr : Frames) (c n e : ℕ) (xs : List ℕ) (t : Term) (env : Env) → AreBelow n k hs → (r : Result) (go : List ℕ → Running → Result) (target : ℕ → FullOutcome) → Follows funs k ((e, n) ∷ hs) (Bound (one_label n xs t) env sc) fr c r target → Rests funs k hs fr c n xs t env sc go → Follows funs k hs sc fr c (handled e go r) target
try_follows funs k hs sc fr c n e xs t env below (Gives ws now) go target h next = record {
  spent = h.spent;
  by = λ j le. let a = h.by j le in (a.0, a.1, a.2 ∙ given_passes funs j n k below.to ws xs t env sc fr (world_of now));
}
try_follows funs k hs sc fr c n e xs t env below (Raises x ws now) go target h next =
    caught_follows funs k hs sc fr c n x (x == e) (nat_eq e x) (number-sym e x) xs ws t env below now (go ws now) target h.spent h.by (next ws now h.spent)
try_follows funs k hs sc fr c n e xs t env below (Halts how now) go target h next = record { spent = h.spent; by = λ j le. h.by j le }

-- ---- calls

label_goes : (next : Next) (o : Option ℕ) (e : ℕ) (ws : List ℕ) (sc : Scope) (fr : Frames) (w : World) → or_label next o ws sc fr w (thrown next e ws fr w) ≡ raised_to next o e ws sc fr w
label_goes next (Some l) e ws sc fr w = refl
label_goes next None e ws sc fr w = refl

-- with a label: what a call gives or raises reaches the frame
framed_goes : (next : Next) (l : ℕ) (hs : List Handler) (sc : Scope) (fr : Frames) (r : Result) → goes_on next None [] Top (Frame l hs sc fr) r ≡ goes_on next (Some l) hs sc fr r
framed_goes next l hs sc fr (Gives ws now) = refl
framed_goes next l hs sc fr (Raises e ws now) = label_goes next (handler_of e hs) e ws sc fr (world_of now)
framed_goes next l hs sc fr (Halts how now) = refl

-- without: it is the caller's
pub same_goes : (next : Next) (sc : Scope) (fr : Frames) (r : Result) → goes_on next None [] Top fr r ≡ goes_on next None [] sc fr r
same_goes next sc fr (Gives ws now) = refl
same_goes next sc fr (Raises e ws now) = refl
same_goes next sc fr (Halts how now) = refl

-- an ending that comes to the same
pub follows_same : {funs : List Fun} {k k' : Option ℕ} {hs hs' : List Handler} {sc sc' : Scope} {fr fr' : Frames} {c : ℕ} {r : Result} {target : ℕ → FullOutcome} → ((j : ℕ) → goes_on (run funs j) k hs sc fr r ≡ goes_on (run funs j) k' hs' sc' fr' r) → Follows funs k hs sc fr c r target → Follows funs k' hs' sc' fr' c r target
follows_same e h = record { spent = h.spent; by = λ j le. let a = h.by j le in (a.0, a.1, a.2 ∙ e j) }

-- by label 0: one jump more for the words
handed_follows : (funs : List Fun) (hs : List Handler) (sc : Scope) (fr : Frames) (c m : ℕ) → IsBack funs sc m → (r : Result) (target : ℕ → FullOutcome) → GivesMany m r → Follows funs (Some 0) hs sc fr c r target → Follows funs None hs sc fr c r target
handed_follows funs hs sc fr c m back (Gives ws now) target many h = record {
  spent = h.spent;
  by = λ j le. let most : now.calls ≤ j = le in let a = h.by (suc j) (omega arith) in (a.0, a.1, a.2 ∙ back.by ws many j fr (world_of now));
}
handed_follows funs hs sc fr c m back (Raises e ws now) target many h = record { spent = h.spent; by = λ j le. h.by j le }
handed_follows funs hs sc fr c m back (Halts how now) target many h = record { spent = h.spent; by = λ j le. h.by j le }

call_follows : (funs : List Fun) (earlier : Bool) (f : ℕ) (bs : List Atom) (env : Env) (k : Option ℕ) (hs : List Handler) (sc : Scope) (fr : Frames) (c n m : ℕ) (w : World) (r : Result) → (k ≡ None → earlier ≡ false → hs ≡ []) → Backs funs k earlier n sc m → GivesMany m r → ((fr' : Frames) → Follows funs None [] Top fr' c r (λ i. run funs i (ToFun f (atom_words env bs) fr') w))
    → Follows funs k hs sc fr c r (λ i. does (run funs i) (call_term earlier f bs k hs) env sc fr w)
call_follows funs earlier f bs env (Some l) hs sc fr c n m w r free back many h = follows_same (λ j. framed_goes (run funs j) l hs sc fr r) (h (Frame l hs sc fr))
call_follows funs true f bs env None hs sc fr c n m w r free back many h =
    handed_follows funs hs sc fr c m back.1 r (λ i. run funs i (ToFun f (atom_words env bs) (Frame 0 hs sc fr)) w) many (follows_same (λ j. framed_goes (run funs j) 0 hs sc fr r) (h (Frame 0 hs sc fr)))
call_follows funs false f bs env None hs sc fr c n m w r free back many h =
    subst (λ l. Follows funs None l sc fr c r (λ i. run funs i (ToFun f (atom_words env bs) fr) w)) (sym (free refl refl)) (follows_same (λ j. same_goes (run funs j) sc fr r) (h fr))

-- ---- code

-- where the words of code are the function's, it stands under no handler
abbrev pub Ends : Bool → Option ℕ → List Handler → Type 0
Ends tail k hs = tail ≡ true → (k ≡ None) × (hs ≡ [])

-- a call in code that is formed, which isn't of an earlier group, is of the own group, and stands under no handler
pub call_free : (flats : List FlatFun) (own : ℕ) (tail : Bool) (n : ℕ) (known : List ℕ) (f : ℕ) (bs : _) (k : Option ℕ) (hs : List Handler) → flat.is_formed flats own tail n known (Call f bs) ≡ true → Ends tail k hs → is_earlier own (slice_get flats f) ≡ false → hs ≡ []
call_free flats own true n known f bs k hs formed ends e = (ends refl).1
call_free flats own false n known f bs k hs formed ends e =
    let parts = call-parts flats own false n known f bs formed in
    absurd (false≢true (sym e ∙ ap (is_earlier own) parts.there ∙ parts.stands))

pub ends_inside : (k : Option ℕ) (hs : List Handler) → Ends false k hs
ends_inside k hs e = absurd (false≢true e)

module _ (flats : List FlatFun) (main : ℕ) (program : flat.is_program flats main ≡ true) (funs : List Fun) (depth : ℕ) (follow : CallsFollow funs depth (source.calls_within depth flats)) (own : ℕ) where
  pub simulates : (t : Flat) (tail : Bool) (m : ℕ) (known : List ℕ) → flat.is_formed flats own tail m known t ≡ true → (n : ℕ) (k : Option ℕ) (hs : List Handler) → Ends tail k hs → AreBelow n k hs → (env : Env) (sc : Scope) → Backs funs k (hands_on flats own t) n sc m → (fr : Frames) (now : Running) → now.calls ≤ depth
      → Follows funs k hs sc fr now.calls (source.does (source.calls_within depth flats) t env now) (λ i. does (run funs i) (lowered flats own t n k hs) env sc fr (world_of now))
  simulates (Let' x a q t) tail m known formed n k hs ends below env sc back fr now le =
      simulates t tail m (x ∷ known) (let-parts flats own tail m known x a q t formed).rest n k hs ends below (assigned env x (prim_word env a)) sc back fr now le
  simulates (Fetch' o xs a q t) tail m known formed n k hs ends below env sc back fr now le =
      follows_fetch (fetched o (atom_word env a) (length xs.items) now.packet) o (atom_word env a) now _ (λ i ws. does (run funs i) (lowered flats own t n k hs) (assigned_all env xs.items ws) sc fr (world_of now))
      (λ ws. simulates t tail m (xs.items ++ known) (fetch-parts flats own tail m known o xs a q t formed).rest n k hs ends below (assigned_all env xs.items ws) sc back fr now le)
  simulates (Store' o a bs q t) tail m known formed n k hs ends below env sc back fr now le =
      follows_store (stored o (atom_word env a) (atom_words env bs.items) now.packet) o (atom_word env a) (atom_words env bs.items) now _ (λ i v. does (run funs i) (lowered flats own t n k hs) env sc fr v) refl
      (λ next e. subst (λ c. Follows funs k hs sc fr c (source.does (source.calls_within depth flats) t env next) (λ i. does (run funs i) (lowered flats own t n k hs) env sc fr (world_of next))) e
      (simulates t tail m known (store-parts flats own tail m known o a bs q t formed).rest n k hs ends below env sc back fr next (omega arith)))
  simulates (If' o a b q t r u) tail m known formed n k hs ends below env sc back fr now le =
      let parts = if-parts flats own tail m known o a b q t r u formed in
      follows_if (compares o (atom_word env a) (atom_word env b)) _ _ (λ i. does (run funs i) (lowered flats own t n k hs) env sc fr (world_of now)) (λ i. does (run funs i) (lowered flats own u (n + labels t) k hs) env sc fr (world_of now))
      (simulates t tail m known parts.first n k hs ends below env sc (backs_left funs k (hands_on flats own t) (hands_on flats own u) n sc m back) fr now le)
      (simulates u tail m known parts.second (n + labels t) k hs ends (are_more n (n + labels t) k hs (omega arith) below) env sc (backs_more funs k (hands_on flats own u) n (n + labels t) sc m (omega arith) (backs_right funs k (hands_on flats own t) (hands_on flats own u) n sc m back)) fr now le)
  simulates (Bind' xs q t r u) tail m known formed n k hs ends below env sc back fr now le =
      let parts = bind-parts flats own tail m known xs q t r u formed in
      let v = lowered flats own u (n + 1 + labels t) k hs in
      let inner = Bound (one_label n xs.items v) env sc in
      bind_follows funs k hs sc fr now.calls n xs.items v env below (source.does (source.calls_within depth flats) t env now) _ _
      (simulates t false (length xs.items) known parts.first (n + 1) (Some n) hs (ends_inside (Some n) hs) (below_bind n k hs below) env inner tt fr now le)
      (λ ws next lc. simulates u tail m (xs.items ++ known) parts.rest (n + 1 + labels t) k hs ends (are_more n (n + 1 + labels t) k hs (omega arith) below) (assigned_all env xs.items ws) inner (backs_bound funs k (hands_on flats own u) n (n + 1 + labels t) sc m xs.items v env (omega arith) back) fr next (omega arith))
  simulates (Call f bs) tail m known formed n k hs ends below env sc back fr now le =
      call_follows funs (is_earlier own (slice_get flats f)) f bs.items env k hs sc fr now.calls n m (world_of now) (source.calls_within depth flats f (atom_words env bs.items) now) (λ is e. call_free flats own tail m known f bs k hs formed ends e) back
      (code-many flats main depth own tail m known (Call f bs) env now program formed) (λ fr'. follow.by f (atom_words env bs.items) fr' now le)
  simulates (Raise e bs) tail m known formed n k hs ends below env sc back fr now le = record { spent = omega arith; by = λ j lt. (j, lt, raise_runs funs j (handler_of e hs) e bs.items env sc fr (world_of now)) }
  simulates (Try' q t e xs r u) tail m known formed n k hs ends below env sc back fr now le =
      let parts = try-parts flats own tail m known q t e xs r u formed in
      let v = lowered flats own u (n + 1 + labels t) k hs in
      let inner = Bound (one_label n xs.items v) env sc in
      try_follows funs k hs sc fr now.calls n e xs.items v env below (source.does (source.calls_within depth flats) t env now) _ _
      (simulates t false m known parts.first (n + 1) k ((e, n) ∷ hs) (ends_inside k ((e, n) ∷ hs)) (below_try n e k hs below) env inner (backs_bound funs k (hands_on flats own t) n (n + 1) sc m xs.items v env (omega arith) (backs_left funs k (hands_on flats own t) (hands_on flats own u) n sc m back)) fr now le)
      (λ ws next lc. simulates u tail m (xs.items ++ known) parts.handler (n + 1 + labels t) k hs ends (are_more n (n + 1 + labels t) k hs (omega arith) below) (assigned_all env xs.items ws) inner (backs_bound funs k (hands_on flats own u) n (n + 1 + labels t) sc m xs.items v env (omega arith) (backs_right funs k (hands_on flats own t) (hands_on flats own u) n sc m back)) fr next (omega arith))
  simulates (Give bs) tail m known formed n k hs ends below env sc back fr now le = record { spent = omega arith; by = λ j lt. (j, lt, give_runs funs j k bs.items env sc fr (world_of now)) }
