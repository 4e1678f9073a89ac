-- Whole runs.
use Rattle.std.proofs.Common.{◌≡◌, ◌∙◌, refl, ap, sym, subst, ℕ, List, [], ◌∷◌, ◌++◌, take, get_or, Option, Result as Answer, Ok, Err, IfOk, OnOk, OnErr, inl, inr, lit≤, codes, Vec, Global, arith}
use Rattle.nv_base.specs.declared.outcome.Write.{Write}
use Rattle.nv_base.specs.declared.outcome.Outcome.{Outcome}
use Rattle.nv_base.specs.declared.outcome.Outcome.TheVariants as outcome
use Rattle.nv_base.specs.declared.term.Mem.{Mem}
use Rattle.nv_base.specs.declared.error.NoMemory.{NoMemory}
use Rattle.nv_base.specs.Log.{Log, noted_all}
use Rattle.nv_base.specs.Memories.{Memories}
use Rattle.nv_base.specs.Meanings.{source_writes, left_by, IsPrefix}
use Rattle.nv_meaning_values.specs.Notes.{Notes, Knows, traced_all, source_made}
use Rattle.nv_meaning_values.specs.Chains.{Kept, trail_of}
use Rattle.nv_base.specs.Name.{IsName}
use Rattle.nv_ast.specs.Tree.{ProgramTree, FunTree}
use Rattle.nv_meaning_values.specs.Values.{Scope, words_of, all_words}
use Rattle.nv_meaning_values.specs.Running.{InCall, Chain, Made, plain, Running, Result, Gives, Raises, Halts, TracedOutcome, closed, over}
use Rattle.nv_meaning.specs.Meaning.{Declared, eval, run_main, traced, declared, function_in, group_in, groups_from, in_main, calls_within}
use Rattle.nv_meaning_values.specs.declared.value.Value as code
use Rattle.nv_meaning_values.specs.declared.stop.Interruption.{Interruption}
use Rattle.nv_meaning_values.specs.declared.stop.Interruption.TheVariants as stops
use Rattle.nv_meaning_values.specs.inner.View.{view, list_values}
use Rattle.nv_meaning.specs.inner.Ran.{At, at, notes_of, running, Wrote, RanValue, IsValue, Grown, now_of, Noted, Executes}
use Rattle.nv_meaning.proofs.Grows.{grown-here, plain-append}

pub main_name : IsName (codes "main")
main_name = ((inr (inl (lit≤ tt, lit≤ tt)), (inl (inr (inl (lit≤ tt, lit≤ tt))), (inl (inr (inl (lit≤ tt, lit≤ tt))), (inl (inr (inl (lit≤ tt, lit≤ tt))), tt)))), lit≤ tt)

pub closed-writes : (r : Result) → (closed r).writes ≡ (now_of r).writes
closed-writes (Gives v now) = refl
closed-writes (Raises k vs now) = refl
closed-writes (Halts how now) = refl

-- the answer of a run whose main came to r after these writes
executes : (a b : At) (c : Chain) (r : Result) (wrote : List Made) (result : Answer Outcome NoMemory) → Wrote a b wrote → IfOk result (λ o. closed r ≡ over o (running b c wrote)) → OnErr result (Grown (running b c wrote) r) → Executes result a b (closed r)
executes a b c r wrote (Ok o) change done short = (ap (λ f. f.outcome) done, ap (λ f. f.packet) done, subst (λ ms. Noted a b ms) (sym (ap (λ f. f.writes) done)) (record { log = change.log; trail = change.trail }))
executes a b c r wrote (Err e) change done short = (wrote, (short.rest, closed-writes r ∙ short.writes), change.packet, (record { log = change.log; trail = change.trail }))

-- nothing has happened yet
pub executes-nothing : (a : At) (f : TracedOutcome) (e : NoMemory) → Executes (Err e) a a f
executes-nothing a f e = ([], (f.writes, refl), refl, record { log = refl; trail = refl })

-- how many calls are left doesn't count
pub executes-left : (a b : At) (n : ℕ) (f : TracedOutcome) (result : Answer Outcome NoMemory) → Executes result a b f → Executes result a (at n b.packet b.log) f
executes-left a b n f (Ok o) h = (h.0, h.1, record { log = h.2.log; trail = h.2.trail })
executes-left a b n f (Err e) h = (h.0, h.1, h.2, record { log = h.3.log; trail = h.3.trail })

-- ---- the outcome that main's answer gives
module _ (answer : Answer code.Value Interruption) (now : Running) (r : Result) (h : IsValue answer now r) where
  pub ended : (v : code.Value) (words first : List ℕ) → answer ≡ Ok v → words ≡ words_of (view v) → first ≡ take 8 words → closed r ≡ over (outcome.Ended first) now
  ended v words first is w f =
      let e : r ≡ Gives (view v) now = subst (λ a. IsValue a now r) is h in
      ap closed e ∙ ap (λ ws. over (outcome.Ended (take 8 ws)) now) (sym w) ∙ ap (λ ws. over (outcome.Ended ws) now) (sym f)

  pub raised : (k : ℕ) (vs : Vec code.Value Global) (words first : List ℕ) → answer ≡ Err (stops.Raised k vs) → words ≡ all_words (list_values vs.items) → first ≡ take 8 words → closed r ≡ over (outcome.Raised k first) now
  raised k vs words first is w f =
      let e : r ≡ Raises k (list_values vs.items) now = subst (λ a. IsValue a now r) is h in
      ap closed e ∙ ap (λ ws. over (outcome.Raised k (take 8 ws)) now) (sym w) ∙ ap (λ ws. over (outcome.Raised k ws) now) (sym f)

  pub faulted : (m : Mem) (place : ℕ) → answer ≡ Err (stops.Fault m place) → closed r ≡ over (outcome.Fault m place) now
  faulted m place is = ap closed (subst (λ a. IsValue a now r) is h)

  pub going : answer ≡ Err stops.Going → closed r ≡ over outcome.Going now
  going is = ap closed (subst (λ a. IsValue a now r) is h)

  pub short-value : (v : code.Value) → answer ≡ Ok v → Grown now r
  short-value v is = let e : r ≡ Gives (view v) now = subst (λ a. IsValue a now r) is h in grown-here now r (ap now_of e)

  pub short-raised : (k : ℕ) (vs : Vec code.Value Global) → answer ≡ Err (stops.Raised k vs) → Grown now r
  short-raised k vs is = let e : r ≡ Raises k (list_values vs.items) now = subst (λ a. IsValue a now r) is h in grown-here now r (ap now_of e)

  pub short-stop : answer ≡ Err stops.NoMemory → Grown now r
  short-stop is = subst (λ a. IsValue a now r) is h

-- main's body has come to an answer
pub main-executes : (d : Declared) (n : ℕ) (p : Memories) (log : Notes) (b : At) (fun : FunTree) (s : Scope) (answer : Answer code.Value Interruption) (result : Answer Outcome NoMemory)
    → RanValue d (at n p log) b answer (λ call now. eval d call fun.body s now)
    → (c : Chain) → Knows log c → (r : Result) → r ≡ eval d (calls_within n d) fun.body s (record { calls = n; packet = p; writes = []; chain = c })
    → ((now : Running) (q : Result) → IsValue answer now q → IfOk result (λ o. closed q ≡ over o now))
    → ((now : Running) (q : Result) → IsValue answer now q → OnErr result (Grown now q))
    → Executes result (at n p log) b (closed r)
main-executes d n p log b fun s answer result h c knows r e done short =
    let m = h.run n (omega arith) c knows [] in
    let v : IsValue answer (running b c m.wrote) r = subst (λ q. IsValue answer (running b c m.wrote) q) (sym e) m.comes in
    executes (at n p log) b c r m.wrote result m.change (done (running b c m.wrote) r v) (short (running b c m.wrote) r v)

-- ---- the meaning of the program, by the declarations and the function that were found
abbrev pub start : ProgramTree → Memories → ℕ → Running
start t p n = record { calls = n; packet = p; writes = []; chain = in_main (declared t) (groups_from 0 t.decls) }

pub traced-is : (t : ProgramTree) (d : Declared) (x : List ℕ) (fun : Option FunTree) (args : List ℕ) (p : Memories) (n : ℕ) → d ≡ declared t → x ≡ codes "main" → function_in d.functions x ≡ fun → traced t args p n ≡ closed (run_main d fun args n (start t p n))
traced-is t d x fun args p n e m f =
    sym (ap (λ o. closed (run_main d o args n (start t p n))) (sym f)
    ∙ ap (λ y. closed (run_main d (function_in d.functions y) args n (start t p n))) m
    ∙ ap (λ k. closed (run_main k (function_in k.functions (codes "main")) args n (start t p n))) e)

-- main alone is in progress at its start
pub main-alone : (t : ProgramTree) (d : Declared) (x name groups : List ℕ) (place : ℕ) (calls : List InCall) → d ≡ declared t → x ≡ codes "main" → name ≡ x → groups ≡ groups_from 0 t.decls
    → ((gs : List ℕ) → group_in d.functions gs x ≡ get_or gs place 0) → calls ≡ (name, get_or groups place 0) ∷ [] → record { groups = groups; calls = calls } ≡ in_main (declared t) (groups_from 0 t.decls)
main-alone t d x name groups place calls e m named g found is =
    ap (λ cs. record { groups = groups; calls = cs }) is
    ∙ ap (λ k. record { groups = groups; calls = (name, k) ∷ [] }) (sym (found groups))
    ∙ ap (λ y. record { groups = groups; calls = (y, group_in d.functions groups x) ∷ [] }) named
    ∙ ap (λ y. record { groups = groups; calls = (y, group_in d.functions groups y) ∷ [] }) m
    ∙ ap (λ k. record { groups = groups; calls = (codes "main", group_in k.functions groups (codes "main")) ∷ [] }) e
    ∙ ap (λ gs. in_main (declared t) gs) g

-- a run without main is going for ever
pub executes-none : (a : At) (f : TracedOutcome) → f ≡ record { outcome = outcome.Going; packet = a.packet; writes = [] } → Executes (Ok outcome.Going) a a f
executes-none a f e = (ap (λ g. g.outcome) e, ap (λ g. g.packet) e, subst (λ ms. Noted a a ms) (sym (ap (λ g. g.writes) e)) (record { log = refl; trail = refl }))

-- the same between moments with the same log and trace
module _ (n : ℕ) (p q : Memories) (before after : Notes) (log log' : Log) (trace trace' : Kept) (is_log : before.log ≡ log) (is_trail : before.trail ≡ trail_of trace) (is_log' : after.log ≡ log') (is_trail' : after.trail ≡ trail_of trace') where
  noted-alike : (ms : List Made) → Noted (at n p before) (at n q after) ms → Noted (at n p (notes_of log trace)) (at n q (notes_of log' trace')) ms
  noted-alike ms h = record {
    log = sym is_log' ∙ h.log ∙ ap (λ l. noted_all l (source_writes (plain ms))) is_log;
    trail = sym is_trail' ∙ h.trail ∙ ap (λ t. traced_all t (source_made ms)) is_trail;
  }

  pub executes-alike : (f g : TracedOutcome) (result : Answer Outcome NoMemory) → g ≡ f → Executes result (at n p before) (at n q after) f → Executes result (at n p (notes_of log trace)) (at n q (notes_of log' trace')) g
  executes-alike f g (Ok o) same h = (ap (λ x. x.outcome) same ∙ h.0, ap (λ x. x.packet) same ∙ h.1, noted-alike g.writes (subst (λ x. Noted (at n p before) (at n q after) x.writes) (sym same) h.2))
  executes-alike f g (Err e) same h = (h.0, (h.1.0, ap (λ x. x.writes) same ∙ h.1.1), h.2, noted-alike h.0 h.3)

-- ---- what that says of the outcome, the memories, the log and the trace
module _ (a b : At) (f : TracedOutcome) where
  pub gives-outcome : (result : Answer Outcome NoMemory) → Executes result a b f → IfOk result (λ o. o ≡ f.outcome)
  gives-outcome (Ok o) h = sym h.0
  gives-outcome (Err e) h = tt

  pub gives-packet : (result : Answer Outcome NoMemory) → Executes result a b f → OnOk result (b.packet ≡ f.packet)
  gives-packet (Ok o) h = sym h.1
  gives-packet (Err e) h = tt

  pub gives-log : (result : Answer Outcome NoMemory) → Executes result a b f → OnOk result (b.log.log ≡ noted_all a.log.log (source_writes (plain f.writes)))
  gives-log (Ok o) h = h.2.log
  gives-log (Err e) h = tt

  pub gives-trail : (result : Answer Outcome NoMemory) → Executes result a b f → OnOk result (b.log.trail ≡ traced_all a.log.trail (source_made f.writes))
  gives-trail (Ok o) h = h.2.trail
  gives-trail (Err e) h = tt

  pub gives-front : (result : Answer Outcome NoMemory) → Executes result a b f
      → OnErr result ((made : List Write) × IsPrefix made (plain f.writes) × (b.packet ≡ left_by made a.packet) × (b.log.log ≡ noted_all a.log.log (source_writes made)))
  gives-front (Ok o) h = tt
  gives-front (Err e) h = (plain h.0, (plain h.1.0, ap plain h.1.1 ∙ plain-append h.0 h.1.0), h.2, h.3.log)

  pub gives-traced_front : (result : Answer Outcome NoMemory) → Executes result a b f
      → OnErr result ((made : List Made) × (rest : List Made) × (f.writes ≡ made ++ rest) × (b.packet ≡ left_by (plain made) a.packet) × (b.log.trail ≡ traced_all a.log.trail (source_made made)))
  gives-traced_front (Ok o) h = tt
  gives-traced_front (Err e) h = (h.0, h.1.0, h.1.1, h.2, h.3.trail)
