-- A call, and the calls in its place, one after another.
use Rattle.std.proofs.Common.{◌≡◌, ℕ, zero, suc, ◌-◌, ◌<◌, ◌≤◌, List, [], ◌++◌, get_or, refl, sym, ap, ◌∙◌, subst, append_assoc, append-nil, None, Result as Answer, Ok, Err, Vec, Global, Bor, arith}
use Rattle.nv_base.specs.declared.outcome.Outcome.TheVariants as outcome
use Rattle.nv_base.specs.Log.{noted_all}
use Rattle.nv_base.specs.Meanings.{source_writes}
use Rattle.nv_meaning_values.specs.Notes.{Notes, Knows, HasRoom, traced_all, source_made}
use Rattle.nv_meaning_values.specs.Callers.{IsAbove}
use Rattle.nv_meaning_values.proofs.Trails.{room-before}
use Rattle.nv_meaning_values.proofs.Above.{above-itself, above-called}
use Rattle.nv_meaning_values.specs.Values.{Values}
use Rattle.nv_meaning_values.specs.Running.{Chain, Made, plain, Running, Result, Gives, Raises, Halts, taken, called, calling, back_to}
use Rattle.nv_meaning.specs.Meaning.{Declared, Calls, enter, function_in, group_in, calls_within}
use Rattle.nv_meaning_values.specs.declared.value.Value as code
use Rattle.nv_meaning.specs.declared.step.Step.TheVariants.{Again}
use Rattle.nv_meaning_values.specs.declared.stop.Interruption.{Interruption}
use Rattle.nv_meaning_values.specs.declared.stop.Interruption.TheVariants.{NoMemory, Raised, Fault, Going}
use Rattle.nv_meaning_values.specs.inner.View.{list_values}
use Rattle.nv_meaning.specs.inner.Ran.{At, at, running, Wrote, IsValue, RanStep, RanValue, RanCall}
use Rattle.nv_meaning.proofs.Grows.{back-grows, enter-grows, calls-grow}
use Rattle.nv_meaning.proofs.Moments.{wrote-nothing, wrote-then, ran-here}
use Rattle.nv_meaning.proofs.Arms.{value-as}

-- ---- after a call
back-twice : (c e : Chain) (r : Result) → back_to c (back_to e r) ≡ back_to c r
back-twice c e (Gives v now) = refl
back-twice c e (Raises k vs now) = refl
back-twice c e (Halts how now) = refl

call-back : (depth : ℕ) (d : Declared) (f : List ℕ) (vs : Values) (now : Running) → calls_within depth d f vs now ≡ back_to now.chain (calls_within depth d f vs now)
call-back zero d f vs now = refl
call-back (suc depth) d f vs now = sym (back-twice now.chain now.chain _)

back-stopped : (stop : Interruption) (a : At) (c e : Chain) (ms : List Made) (r : Result) → IsValue (Err stop) (running a e ms) r → IsValue (Err stop) (running a c ms) (back_to c r)
back-stopped NoMemory a c e ms r h = let g = back-grows c (running a e ms) r h in record { rest = g.rest; writes = g.writes; packet = g.packet }
back-stopped (Raised k vs) a c e ms r h = ap (back_to c) h
back-stopped (Fault m place) a c e ms r h = ap (back_to c) h
back-stopped Going a c e ms r h = ap (back_to c) h

back-value : (answer : Answer code.Value Interruption) (a : At) (c e : Chain) (ms : List Made) (r : Result) → IsValue answer (running a e ms) r → IsValue answer (running a c ms) (back_to c r)
back-value (Ok v) a c e ms r h = ap (back_to c) h
back-value (Err stop) a c e ms r h = back-stopped stop a c e ms r h

-- ---- a call has led to another one, which lies no deeper
pub record Jump (d : Declared) (a b : At) (f : List ℕ) (vs : Values) (g : List ℕ) (ws : Values) (depth : ℕ) (c : Chain) (before : List Made) : Type 0 where
  pub wrote : List Made
  pub change : Wrote a b wrote
  pub later : Chain
  pub knows : Knows b.log later
  pub above : IsAbove c later
  pub deep : ℕ
  pub enough : b.calls ≤ deep
  pub is : calls_within depth d f vs (running a c before) ≡ back_to c (calls_within deep d g ws (running b later (before ++ wrote)))

pub record Jumped (d : Declared) (a b : At) (f : List ℕ) (vs : Values) (g : List ℕ) (ws : Values) : Type 0 where
  pub run : (depth : ℕ) → a.calls ≤ depth → (c : Chain) → Knows a.log c → (before : List Made) → Jump d a b f vs g ws depth c before

pub jump-none : (d : Declared) (a : At) (f : List ℕ) (vs : Values) → Jumped d a a f vs f vs
jump-none d a f vs = record {
  run = λ depth le c knows before. record {
    wrote = [];
    change = wrote-nothing a;
    later = c;
    knows = knows;
    above = above-itself c;
    deep = depth;
    enough = le;
    is = call-back depth d f vs (running a c before) ∙ ap (λ ms. back_to c (calls_within depth d f vs (running a c ms))) (sym (append-nil before));
  };
}

-- ---- a call is taken
taken-less : (n : ℕ) (now : Running) (next : Running → Result) → 0 < n → taken n now next ≡ next (record { calls = n - 1; packet = now.packet; writes = now.writes; chain = now.chain })
taken-less zero now next some = absurd (omega arith)
taken-less (suc n) now next some = let z : n ≡ suc n - 1 = omega arith in ap (λ k. next (record { calls = k; packet = now.packet; writes = now.writes; chain = now.chain })) z

-- the calls in progress once a function is called
abbrev pub inside : Declared → List ℕ → Chain → Chain
inside d g c = record { groups = c.groups; calls = called c.calls (g, group_in d.functions c.groups g) }

-- the same moment with a call taken, and with notes that differ in the calls in progress alone
abbrev pub less : At → Notes → At
less b n = at (b.calls - 1) b.packet n

pub record Alike (m n : Notes) : Type 0 where
  pub log : n.log ≡ m.log
  pub trail : n.trail ≡ m.trail

call-is : (d : Declared) (b : At) (n : Notes) (deep : ℕ) (g : List ℕ) (ws : Values) (c : Chain) (ms : List Made) → 0 < b.calls → b.calls ≤ deep → (deep' : ℕ) × (b.calls - 1 ≤ deep') × (calls_within deep d g ws (running b c ms) ≡ back_to c (enter d (calls_within deep' d) (function_in d.functions g) ws (running (less b n) (inside d g c) ms)))
call-is d b n zero g ws c ms some le = absurd (omega arith)
call-is d b n (suc deep) g ws c ms some le = (deep, omega arith, ap (back_to c) (taken-less b.calls (running b c ms) (λ next. enter d (calls_within deep d) (function_in d.functions g) ws (calling (g, group_in d.functions next.chain.groups g) next)) some))

wrote-less : (b e : At) (n : Notes) (ms : List Made) → Alike b.log n → Wrote (less b n) e ms → Wrote b e ms
wrote-less b e n ms same h = record {
  calls = (let k : e.calls ≤ b.calls - 1 = h.calls in omega arith);
  packet = h.packet;
  log = h.log ∙ ap (λ l. noted_all l (source_writes (plain ms))) same.log;
  trail = h.trail ∙ ap (λ t. traced_all t (source_made ms)) same.trail;
}

none-is : (d : Declared) (deep : ℕ) (g : List ℕ) (ws : Values) (now : Running) → now.calls ≡ 0 → calls_within deep d g ws now ≡ Halts outcome.Going now
none-is d zero g ws now e = refl
none-is d (suc deep) g ws now e = ap (λ n. back_to now.chain (taken n now (λ next. enter d (calls_within deep d) (function_in d.functions g) ws (calling (g, group_in d.functions next.chain.groups g) next)))) e

-- the function at a place is in progress
pub turned : (d : Declared) (b n : Notes) (g : List ℕ) (place : ℕ) → Alike b n → (HasRoom b.trail → n.chain ≡ record { groups = b.chain.groups; calls = called b.chain.calls (g, get_or b.chain.groups place 0) })
    → ((groups : List ℕ) → group_in d.functions groups g ≡ get_or groups place 0) → (c : Chain) → Knows b c → Knows n (inside d g c)
turned d b n g place same follow found c knows room =
    let there : HasRoom b.trail = subst HasRoom same.trail room in
    follow there
    ∙ ap (λ k. record { groups = k.groups; calls = called k.calls (g, get_or k.groups place 0) }) (knows there)
    ∙ ap (λ m. record { groups = c.groups; calls = called c.calls (g, m) }) (sym (found c.groups))

-- ---- what a call comes to, while the calls in progress lie above those at its start
module _ (d : Declared) (a b : At) (f : List ℕ) (vs : Values) (g : List ℕ) (ws : Values) where
  pub jump-none_left : b.calls ≡ 0 → Jumped d a b f vs g ws → RanCall d a b (Err Going) f vs
  jump-none_left e r = record {
    run = λ depth le c knows before.
        let j = r.run depth le c knows before in
        record {
          wrote = j.wrote;
          change = j.change;
          later = j.later;
          knows = j.knows;
          above = j.above;
          comes = j.is ∙ ap (back_to c) (none-is d j.deep g ws (running b j.later (before ++ j.wrote)) e);
        };
  }

  -- what the body comes to, once its function is in progress
  module _ (n : Notes) (same : Alike b.log n) (turn : (c : Chain) → Knows b.log c → Knows n (inside d g c)) (some : 0 < b.calls) (r : Jumped d a b f vs g ws) where
    pub jump-more : (e : At) (h : Bor (List ℕ)) (us : Vec code.Value Global) → RanStep d (less b n) e (Ok (Again h us)) (λ call now. enter d call (function_in d.functions g) ws now) → Jumped d a e f vs h.now (list_values us.items)
    jump-more e h us s = record {
      run = λ depth le c knows before.
          let j = r.run depth le c knows before in
          let k = call-is d b n j.deep g ws j.later (before ++ j.wrote) some j.enough in
          let m = s.run k.0 k.1 (inside d g j.later) (turn j.later j.knows) (before ++ j.wrote) in
          let fewer : e.calls ≤ b.calls - 1 = m.change.calls in
          let enough : b.calls - 1 ≤ k.0 = k.1 in
          record {
            wrote = j.wrote ++ m.wrote;
            change = wrote-then a b e j.wrote m.wrote j.change (wrote-less b e n m.wrote same m.change);
            later = inside d g j.later;
            knows = m.knows;
            above = above-called c j.later (g, group_in d.functions j.later.groups g) j.above;
            deep = k.0;
            enough = omega arith;
            is = j.is ∙ ap (back_to c) k.2 ∙ back-twice c j.later _ ∙ ap (back_to c) m.comes
                ∙ ap (λ ms. back_to c (calls_within k.0 d h.now (list_values us.items) (running e (inside d g j.later) ms))) (append_assoc before j.wrote m.wrote);
          };
    }

    pub jump-end : (e : At) (answer : Answer code.Value Interruption) → RanValue d (less b n) e answer (λ call now. enter d call (function_in d.functions g) ws now) → RanCall d a e answer f vs
    jump-end e answer s = record {
      run = λ depth le c knows before.
          let j = r.run depth le c knows before in
          let k = call-is d b n j.deep g ws j.later (before ++ j.wrote) some j.enough in
          let m = s.run k.0 k.1 (inside d g j.later) (turn j.later j.knows) (before ++ j.wrote) in
          record {
            wrote = j.wrote ++ m.wrote;
            change = wrote-then a b e j.wrote m.wrote j.change (wrote-less b e n m.wrote same m.change);
            later = inside d g j.later;
            knows = m.knows;
            above = above-called c j.later (g, group_in d.functions j.later.groups g) j.above;
            comes = subst (λ ms. IsValue answer (running e c ms) (calls_within depth d f vs (running a c before))) (append_assoc before j.wrote m.wrote)
                (value-as answer (running e c ((before ++ j.wrote) ++ m.wrote)) (back_to c (enter d (calls_within k.0 d) (function_in d.functions g) ws (running (less b n) (inside d g j.later) (before ++ j.wrote)))) (calls_within depth d f vs (running a c before))
                (j.is ∙ ap (back_to c) k.2 ∙ back-twice c j.later _)
                (back-value answer e c (inside d g j.later) ((before ++ j.wrote) ++ m.wrote) _ m.comes));
          };
    }

    -- memory exhaustion before the body
    pub jump-short_inside : RanCall d a (less b n) (Err NoMemory) f vs
    jump-short_inside = jump-end (less b n) (Err NoMemory) (ran-here d (less b n) (λ call now last. IsValue (Err NoMemory) last (enter d call (function_in d.functions g) ws now)) (λ call grows x same. enter-grows d call grows (function_in d.functions g) ws x))

  -- the body isn't begun
  jump-still : (stop : Interruption) → 0 < b.calls → ((call : Calls) (depth : ℕ) (c : Chain) (ms : List Made) → IsValue (Err stop) (running (less b b.log) c ms) (enter d (calls_within depth d) (function_in d.functions g) ws (running (less b b.log) c ms))) → Jumped d a b f vs g ws → RanCall d a (less b b.log) (Err stop) f vs
  jump-still stop some h r = record {
    run = λ depth le c knows before.
        let j = r.run depth le c knows before in
        let k = call-is d b b.log j.deep g ws j.later (before ++ j.wrote) some j.enough in
        record {
          wrote = j.wrote;
          change = record { calls = (let l : b.calls ≤ a.calls = j.change.calls in omega arith); packet = j.change.packet; log = j.change.log; trail = j.change.trail };
          later = j.later;
          knows = j.knows;
          above = j.above;
          comes = value-as (Err stop) (running (less b b.log) c (before ++ j.wrote)) (back_to c (enter d (calls_within k.0 d) (function_in d.functions g) ws (running (less b b.log) (inside d g j.later) (before ++ j.wrote)))) (calls_within depth d f vs (running a c before))
              (j.is ∙ ap (back_to c) k.2 ∙ back-twice c j.later _)
              (back-stopped stop (less b b.log) c (inside d g j.later) (before ++ j.wrote) _ (h (calls_within k.0 d) k.0 (inside d g j.later) (before ++ j.wrote)));
        };
  }

  pub jump-no_function : 0 < b.calls → function_in d.functions g ≡ None → Jumped d a b f vs g ws → RanCall d a (less b b.log) (Err Going) f vs
  jump-no_function some is r = jump-still Going some (λ call depth c ms. ap (λ o. enter d (calls_within depth d) o ws (running (less b b.log) c ms)) is) r

  pub jump-short : 0 < b.calls → Jumped d a b f vs g ws → RanCall d a (less b b.log) (Err NoMemory) f vs
  jump-short some r = jump-still NoMemory some (λ call depth c ms. enter-grows d (calls_within depth d) (calls-grow depth d) (function_in d.functions g) ws (running (less b b.log) c ms)) r

-- ---- the calls in progress are those at the call's start again
pub call-behind : (d : Declared) (a b : At) (n : Notes) (answer : Answer code.Value Interruption) (f : List ℕ) (vs : Values) → RanCall d a b answer f vs → Alike b.log n
    → ((c later : Chain) → Knows a.log c → Knows b.log later → IsAbove c later → HasRoom a.log.trail → HasRoom b.log.trail → n.chain ≡ c)
    → RanValue d a (at b.calls b.packet n) answer (λ call now. call f vs now)
call-behind d a b n answer f vs r same back = record {
  run = λ depth le c knows before.
      let j = r.run depth le c knows before in
      record {
        wrote = j.wrote;
        change = record { calls = j.change.calls; packet = j.change.packet; log = same.log ∙ j.change.log; trail = same.trail ∙ j.change.trail };
        knows = λ room.
            let there : HasRoom b.log.trail = subst HasRoom same.trail room in
            back c j.later knows j.knows j.above (room-before (source_made j.wrote) a.log.trail (subst HasRoom j.change.trail there)) there;
        comes = j.comes;
      };
}
