-- How a phrase is read and fails behind tokens that are read already.
use Rattle.std.proofs.Common.{◌≡◌, refl, sym, ◌∙◌, ap, subst, ℕ, List, [], ◌∷◌, ◌++◌, append_assoc, append-nil, Bool, true, false}
use Rattle.std.proofs.lemmas.List.{append_cancel_right}
use Rattle.nv_ast.specs.declared.token.Token.{Token}
use Rattle.nv_text_parser.specs.declared.cursor.Failure.{Failure}
use Rattle.nv_text_parser.specs.declared.cursor.Failure.TheVariants.{Syntax, Deep}
use Rattle.std.specs.Borrow.{Bor}
use Rattle.nv_text_parser.specs.inner.Failing.{Bound, NoBound, AtMost, bound_of, Phrases, Follow, Phrase, HasRead, SameFront, Completes, Starts, Reads, Fails, FailsAs, no_memory, syntax, deep}
use Rattle.nv_text_parser.specs.inner.ExprPhrases.{At, Onward}
use Rattle.nv_text_parser.proofs.Sequence.{same_front, same_behind, Fills, past_split}
use Rattle.nv_text_parser.proofs.Frames.{Frame}

-- ---- steps

-- a row of parts, and what may follow it
pub record Stands (Row : Phrases) (G : Follow) (b : Bound) (ts k : List Token) : Type 0 where
  pub row : Row b ts k
  pub follow : G k

-- Behind the tokens `pre` a phrase P within `room` is a Row within `inner`, as far as the token in front of ts tells.
pub record Step (pre : List Token) (Row : Phrases) (inner : ℕ) (G : Follow) (P : Phrases) (room : ℕ) (F : Follow) (ts : List Token) : Type 0 where
  pub make : (low : Bool) (us k : List Token) → Row (bound_of low inner) us k → P (bound_of low room) (pre ++ us) k
  pub parts : (low : Bool) (us k : List Token) → SameFront ts us → P (bound_of low room) (pre ++ us) k → F k → Stands Row G (bound_of low inner) us k

pub step_reads : {pre : List Token} {Row P : Phrases} {G F : Follow} {inner room : ℕ} {us rest : List Token} → Step pre Row inner G P room F us → (ts : List Token) → ts ≡ pre ++ us → Reads Row G inner us rest → Reads P F room ts rest
step_reads {pre = pre} {us = us} {rest = rest} s ts e d = record {
  seen = pre ++ d.seen;
  split = past_split pre us d.seen rest ts e d.split;
  again = λ low k. rw append_assoc (s.make low (d.seen ++ k) k (d.again low k));
  only = λ low vs k h w f.
      let p = s.parts low (d.seen ++ vs) k (same_behind d.seen rest vs us h d.split) (rw append_assoc at w) f in
      d.only low vs k h p.row p.follow;
}

pub step_completes : {pre : List Token} {Row P : Phrases} {G F : Follow} {inner room : ℕ} {us : List Token} (low : Bool) → Step pre Row inner G P room F us → (seen : List Token) → Completes Row (bound_of low inner) seen → Completes P (bound_of low room) (pre ++ seen)
step_completes low s seen c = record { more = c.more; spelled = λ k. rw append_assoc (s.make low (seen ++ (c.more ++ k)) k (c.spelled k)) }

step_starts : {pre : List Token} {Row P : Phrases} {G F : Follow} {inner room : ℕ} {us : List Token} → Step pre Row inner G P room F us → (seen left : List Token) → Starts (HasRead seen Row) left → Starts (HasRead (pre ++ seen) P) left
step_starts s seen left g = record {
  token = g.token;
  rest = g.rest;
  split = g.split;
  on = record { more = g.on.more; spelled = λ k. record { whole = rw append_assoc (s.make false (seen ++ (g.token ∷ (g.on.more ++ k))) k (g.on.spelled k).whole) } };
}

step_dead : {pre : List Token} {Row P : Phrases} {G F : Follow} {inner room : ℕ} {us : List Token} (low : Bool) → Step pre Row inner G P room F us → (seen left : List Token) → us ≡ seen ++ left →
    ((vs k : List Token) → SameFront left vs → Row (bound_of low inner) (seen ++ vs) k → G k → ⊥) →
    (vs k : List Token) → SameFront left vs → P (bound_of low room) ((pre ++ seen) ++ vs) k → F k → ⊥
step_dead {us = us} low s seen left e dead vs k h w f =
    let p = s.parts low (seen ++ vs) k (same_behind seen left vs us h e) (rw append_assoc at w) f in
    dead vs k h p.row p.follow

pub step_fails : {pre : List Token} {Row P : Phrases} {G F : Follow} {inner room : ℕ} {us : List Token} {e : Failure} → Step pre Row inner G P room F us → (ts : List Token) → ts ≡ pre ++ us → FailsAs Row G inner us e → FailsAs P F room ts e
step_fails s ts h no_memory = no_memory
step_fails {pre = pre} {us = us} s ts h (syntax {left = left} d) = syntax (record {
  seen = pre ++ d.seen;
  split = past_split pre us d.seen left.now ts h d.split;
  begins = step_completes true s d.seen d.begins;
  goes_on = tt;
  dead = step_dead false s d.seen left.now d.split d.dead;
})
step_fails {pre = pre} {us = us} s ts h (deep {left = left} d) = deep (record {
  seen = pre ++ d.seen;
  split = past_split pre us d.seen left.now ts h d.split;
  begins = step_completes true s d.seen d.begins;
  goes_on = step_starts s d.seen left.now d.goes_on;
  dead = step_dead true s d.seen left.now d.split d.dead;
})

-- ---- answers at the token in front

-- no phrase goes on with it
pub stops_at : {P : Phrases} {F : Follow} {room : ℕ} (pre us : List Token) {ts : List Token} {left : Bor (List Token)} → ts ≡ pre ++ us → left.now ≡ us → Completes P (AtMost room) pre →
    ((vs k : List Token) → SameFront us vs → P NoBound (pre ++ vs) k → F k → ⊥) → FailsAs P F room ts (Syntax left)
stops_at {P = P} {F = F} {room = room} pre us {ts = ts} {left = left} e l c n = syntax (subst (λ z. Fails P F false room ts z) (sym l) (record { seen = pre; split = e; begins = c; goes_on = tt; dead = n }))

-- only one that is too high goes on with it
pub deep_at : {P : Phrases} {F : Follow} {room : ℕ} (pre : List Token) (t : Token) (us : List Token) {ts : List Token} {left : Bor (List Token)} → ts ≡ pre ++ (t ∷ us) → left.now ≡ t ∷ us → Completes P (AtMost room) pre → Completes P NoBound (pre ++ t ∷ []) →
    ((vs k : List Token) → P (AtMost room) (pre ++ (t ∷ vs)) k → F k → ⊥) → FailsAs P F room ts (Deep left)
deep_at {P = P} {F = F} {room = room} pre t us {ts = ts} {left = left} e l c g n = deep (subst (λ z. Fails P F true room ts z) (sym l) (record {
  seen = pre;
  split = e;
  begins = c;
  goes_on = record {
    token = t;
    rest = us;
    split = refl;
    on = record { more = g.more; spelled = λ k. record { whole = rw append_assoc at (g.spelled k) } };
  };
  dead = no_low;
}))
  where
    no_low : (vs k : List Token) → SameFront (t ∷ us) vs → P (AtMost room) (pre ++ vs) k → F k → ⊥
    no_low [] k h d f = absurd h
    no_low (v ∷ vs) k h d f = n vs k (subst (λ z. P (AtMost room) (pre ++ (z ∷ vs)) k) (sym h) d) f

-- a first token for whose phrase there is no room
pub step_deep : {Row P : Phrases} {G F : Follow} {inner room : ℕ} (t : Token) (us : List Token) {ts : List Token} {left : Bor (List Token)} → ((vs : List Token) → Step (t ∷ []) Row inner G P room F vs) → Fills Row 1 → ((vs k : List Token) → Row (AtMost inner) vs k → ⊥) → Completes P (AtMost room) [] → ts ≡ t ∷ us → left.now ≡ ts → FailsAs P F room ts (Deep left)
step_deep t us s g n c e l = deep_at [] t us e (l ∙ e) c (step_completes false (s []) [] (g.with_ false)) (λ vs k d f. n vs k ((s vs).parts true vs k (same_front vs) d f).row)

-- the phrase is these tokens
pub reads_here : {P : Phrases} {F : Follow} {room : ℕ} (pre us : List Token) {ts : List Token} → ts ≡ pre ++ us → ((low : Bool) (k : List Token) → P (bound_of low room) (pre ++ k) k) →
    ((low : Bool) (vs k : List Token) → SameFront us vs → P (bound_of low room) (pre ++ vs) k → F k → k ≡ vs) → Reads P F room ts us
reads_here pre us e a o = record { seen = pre; split = e; again = a; only = o }

-- ---- parts with a bound of their own
at_step : {P : Phrases} {F : Follow} (n room : ℕ) (us : List Token) → Step [] P n F (At n P) room F us
at_step {P = P} {F = F} n room us = record { make = put; parts = λ low vs k h d f. record { row = got low vs k d; follow = f } }
  where
    put : (low : Bool) (vs k : List Token) → P (bound_of low n) vs k → At n P (bound_of low room) vs k
    put false vs k d = record { part = d }
    put true vs k d = record { part = d }

    got : (low : Bool) (vs k : List Token) → At n P (bound_of low room) vs k → P (bound_of low n) vs k
    got false vs k d = d.part
    got true vs k d = d.part

pub at_reads : {P : Phrases} {F : Follow} {n room : ℕ} {ts rest : List Token} → Reads P F n ts rest → Reads (At n P) F room ts rest
at_reads {n = n} {room = room} {ts = ts} d = step_reads (at_step n room ts) ts refl d

pub at_fails : {P : Phrases} {F : Follow} {n room : ℕ} {ts : List Token} {e : Failure} → FailsAs P F n ts e → FailsAs (At n P) F room ts e
at_fails {n = n} {room = room} {ts = ts} d = step_fails (at_step n room ts) ts refl d

-- ---- where what follows depends on the tree that is read first

pub record Bind {T : Type 0} (R : T → List Token → List Token → Type 0) (Q : T → Phrases) (b : Bound) (ts k : List Token) : Type 0 where
  pub tree : T
  pub middle : List Token
  pub first : R tree ts middle
  pub second : Q tree b middle k

-- the first part, within `inner`, has F after it and is the same whatever follows; alone it is a whole
pub record Binds {T : Type 0} (R : T → List Token → List Token → Type 0) (Low : Bound → T → Type 0) (Q : T → Phrases) (room inner : ℕ) (G F : Follow) : Type 0 where
  pub on : (t : T) (low : Bool) (ts k : List Token) → Q t (bound_of low room) ts k → G k → F ts
  pub is_low : (t : T) (low : Bool) (ts k : List Token) → Q t (bound_of low room) ts k → Low (bound_of low inner) t
  pub fills : (t : T) (low : Bool) → Low (bound_of low inner) t → Completes (Q t) (bound_of low room) []
  pub frame : (t : T) (ts k : List Token) → R t ts k → Frame (R t) ts k
  pub det : (t u : T) (ts k : List Token) → R t ts k → R u ts k → F k → t ≡ u
  pub free : (t : T) → Low NoBound t

-- one tree that completes the tokens whatever follows
record Completed {T : Type 0} (R : T → List Token → List Token → Type 0) (Low : Bound → T → Type 0) (b : Bound) (seen : List Token) : Type 0 where
  more : List Token
  tree : T
  is_low : Low b tree
  spelled : (k : List Token) → R tree (seen ++ (more ++ k)) k

framed : {T : Type 0} (R : T → List Token → List Token → Type 0) (t : T) (seen more : List Token) → Frame (R t) (seen ++ (more ++ [])) [] → (k : List Token) → R t (seen ++ (more ++ k)) k
framed R t seen more f k =
    let e : f.front ≡ seen ++ more = sym (append-nil f.front) ∙ (sym f.split ∙ ap (λ z. seen ++ z) (append-nil more)) in
    subst (λ z. R t z k) (append_assoc seen more k) (subst (λ z. R t (z ++ k) k) e (f.all k))

completed : {T : Type 0} {R : T → List Token → List Token → Type 0} {Low : Bound → T → Type 0} {b : Bound} {seen : List Token} → ((t : T) (ts k : List Token) → R t ts k → Frame (R t) ts k) → Completes (Phrase R Low) b seen → Completed R Low b seen
completed {R = R} {seen = seen} frame c =
    let d = c.spelled [] in
    record { more = c.more; tree = d.tree; is_low = d.low; spelled = framed R d.tree seen c.more (frame d.tree (seen ++ (c.more ++ [])) [] d.spelled) }

bind_completes : {T : Type 0} {R : T → List Token → List Token → Type 0} {Low : Bound → T → Type 0} {Q : T → Phrases} {room inner : ℕ} {G F : Follow} (low : Bool) {seen : List Token} → Binds R Low Q room inner G F → Completes (Phrase R Low) (bound_of low inner) seen → Completes (Bind R Q) (bound_of low room) seen
bind_completes low b c =
    let d = completed b.frame c in
    let q = b.fills d.tree low d.is_low in
    record { more = d.more ++ q.more; spelled = λ k. record { tree = d.tree; middle = q.more ++ k; first = rw append_assoc (d.spelled (q.more ++ k)); second = q.spelled k } }

plain_starts : {T : Type 0} {R : T → List Token → List Token → Type 0} {Low : Bound → T → Type 0} {seen left : List Token} (g : Starts (HasRead seen (Phrase R Low)) left) → Completes (Phrase R Low) NoBound (seen ++ g.token ∷ [])
plain_starts g = record { more = g.on.more; spelled = λ k. rw append_assoc (g.on.spelled k).whole }

bind_starts : {T : Type 0} {R : T → List Token → List Token → Type 0} {Low : Bound → T → Type 0} {Q : T → Phrases} {room inner : ℕ} {G F : Follow} {seen left : List Token} → Binds R Low Q room inner G F → Starts (HasRead seen (Phrase R Low)) left → Starts (HasRead seen (Bind R Q)) left
bind_starts b g =
    let c = bind_completes false b (plain_starts g) in
    record { token = g.token; rest = g.rest; split = g.split; on = record { more = c.more; spelled = λ k. record { whole = rw append_assoc at (c.spelled k) } } }

-- the first part fails
pub bind_fails : {T : Type 0} {R : T → List Token → List Token → Type 0} {Low : Bound → T → Type 0} {Q : T → Phrases} {room inner : ℕ} {G F : Follow} {ts : List Token} {e : Failure} → Binds R Low Q room inner G F → FailsAs (Phrase R Low) F inner ts e → FailsAs (Bind R Q) G room ts e
bind_fails b no_memory = no_memory
bind_fails b (syntax d) = syntax (record {
  seen = d.seen;
  split = d.split;
  begins = bind_completes true b d.begins;
  goes_on = tt;
  dead = λ us k h w g. d.dead us w.middle h (record { tree = w.tree; spelled = w.first; low = b.free w.tree }) (b.on w.tree false w.middle k w.second g);
})
bind_fails b (deep d) = deep (record {
  seen = d.seen;
  split = d.split;
  begins = bind_completes true b d.begins;
  goes_on = bind_starts b d.goes_on;
  dead = λ us k h w g. d.dead us w.middle h (record { tree = w.tree; spelled = w.first; low = b.is_low w.tree true w.middle k w.second }) (b.on w.tree true w.middle k w.second g);
})

same_tokens : {T : Type 0} (R : T → List Token → List Token → Type 0) (t : T) (ts us seen : List Token) → ts ≡ seen ++ us → Frame (R t) ts us → (k : List Token) → R t (seen ++ k) k
same_tokens R t ts us seen e f k =
    let g : f.front ≡ seen = append_cancel_right f.front seen us (sym f.split ∙ e) in
    subst (λ z. R t (z ++ k) k) g (f.all k)

-- the first part is read
pub bind_step : {T : Type 0} {R : T → List Token → List Token → Type 0} {Low : Bound → T → Type 0} {Q : T → Phrases} {room inner : ℕ} {G F : Follow} (t : T) {ts us : List Token} → Binds R Low Q room inner G F → R t ts us → (d : Reads (Phrase R Low) F inner ts us) → Step d.seen (Q t) room G (Bind R Q) room G us
bind_step {R = R} {Q = Q} {room = room} {F = F} t {ts = ts} {us = us} b r d =
    let all = same_tokens R t ts us d.seen d.split (b.frame t ts us r) in
    record {
      make = λ low vs k q. record { tree = t; middle = vs; first = all vs; second = q };
      parts = λ low vs k h w g.
          let f = b.on w.tree low w.middle k w.second g in
          let m : w.middle ≡ vs = d.only false vs w.middle h (record { tree = w.tree; spelled = w.first; low = b.free w.tree }) f in
          let e : w.tree ≡ t = sym (b.det t w.tree (d.seen ++ vs) vs (all vs) (subst (λ z. R w.tree (d.seen ++ vs) z) m w.first) (subst F m f)) in
          record { row = subst (λ z. Q z (bound_of low room) vs k) e (subst (λ z. Q w.tree (bound_of low room) z k) m w.second); follow = g };
    }

-- ---- loops

pub onward_start : {W : Phrases} {F : Follow} {room : ℕ} {ts : List Token} → Onward W W F room ts ts
onward_start = record { fails = λ e h. h; reads = λ rest h. h }

pub onward_step : {pre : List Token} {W V W0 : Phrases} {F : Follow} {room : ℕ} {vs us ts : List Token} → Onward V W0 F room us ts → Step pre W room F V room F vs → us ≡ pre ++ vs → Onward W W0 F room vs ts
onward_step {us = us} o s e = record { fails = λ f h. o.fails f (step_fails s us e h); reads = λ rest h. o.reads rest (step_reads s us e h) }
