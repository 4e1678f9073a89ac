-- How phrases are read and fail that are made of others.
use Rattle.std.proofs.Common.{◌≡◌, refl, sym, ◌∙◌, ap, subst, ℕ, ◌-◌, ◌<◌, ◌≤◌, List, [], ◌∷◌, ◌++◌, append_assoc, arith, Bool, true, false, length, length-append}
use Rattle.std.specs.Prelude.{Result, Ok, Err, MatchResult}
use Rattle.nv_ast.specs.declared.token.Span.{Span}
use Rattle.nv_ast.specs.declared.token.Token.{Token}
use Rattle.nv_ast.specs.declared.token.Sort.{Sort}
use Rattle.nv_ast.specs.declared.token.Sort.TheVariants.{Word, Number, Key, Sign}
use Rattle.nv_ast.specs.Tokens.{at}
use Rattle.nv_text_parser.specs.declared.cursor.Failure.{Failure}
use Rattle.nv_text_parser.specs.declared.cursor.Failure.TheVariants.{NoMemory, Syntax, Deep}
use Rattle.nv_text_parser.specs.inner.Cursor.{Front, NotSign, NotKey, NotName, NotNumber, IsSyntax, IsSyntaxOrMemory}
use Rattle.nv_text_parser.specs.inner.Failing.{Bound, NoBound, AtMost, HasRoom, Part, Same, Inside, Alone, room_of, part_of, bound_of, Phrases, Follow, Anything, Ahead, One, ASign, AKey, AName, ANumber, Then, Many, none, next, HasRead, SameFront, Completes, Starts, StartsNone, Reads, ReadMany, read_none, read_next, Fails, FailsAs, no_memory, syntax, deep}
use Rattle.nv_text_parser.proofs.Follow.{Above, above_weaken, rank}
use Rattle.nv_text_parser.proofs.Bounds.{room_here}

-- ---- the token in front

pub same_front : (ts : List Token) → SameFront ts ts
same_front [] = tt
same_front (t ∷ ts) = refl

-- after the same tokens
pub same_behind : (seen left us ts : List Token) → SameFront left us → ts ≡ seen ++ left → SameFront ts (seen ++ us)
same_behind [] left us ts h e = subst (λ z. SameFront z us) (sym e) h
same_behind (s ∷ seen) left us ts h e = subst (λ z. SameFront z (s ∷ (seen ++ us))) (sym e) refl

-- what holds of the token in front holds where it's the same
pub front_same : (Q : Token → Type 0) (ts us : List Token) → SameFront ts us → Front Q ts → Front Q us
front_same Q [] [] h f = tt
front_same Q [] (u ∷ us) h f = absurd h
front_same Q (t ∷ ts) [] h f = absurd h
front_same Q (t ∷ ts) (u ∷ us) h f = subst Q h f

pub above_same : (n : ℕ) (ts us : List Token) → SameFront ts us → Above n ts → Above n us
above_same n [] [] h f = tt
above_same n [] (u ∷ us) h f = absurd h
above_same n (t ∷ ts) [] h f = absurd h
above_same n (t ∷ ts) (u ∷ us) h f = subst (λ z. n < rank z.sort) h f

-- ---- what may follow

-- a phrase stands in front of something only where that may follow another
pub record Carries (Q : Phrases) (G F : Follow) : Type 0 where
  pub on : (b : Bound) (ts k : List Token) → Q b ts k → G k → F ts

-- it can be completed from nothing
pub record Fills (Q : Phrases) (room : ℕ) : Type 0 where
  pub with_ : (low : Bool) → Completes Q (bound_of low room) []

pub carries_anything : {Q : Phrases} {G : Follow} → Carries Q G Anything
carries_anything = record { on = λ b ts k q g. tt }

pub then_carries : {P Q : Phrases} {H F G : Follow} → Carries P F H → Carries Q G F → Carries (Then P Q) G H
then_carries p q = record { on = λ b ts k r g. p.on b ts r.middle r.first (q.on b r.middle k r.second g) }

pub one_carries : {X : Type 0} {origin_of : X → Sort} {G : Follow} (n : ℕ) → ((x : X) → n < rank (origin_of x)) → Carries (One origin_of) G (Above n)
one_carries n h = record { on = λ b ts k r g. subst (λ z. Above n z) (sym r.split) (h r.value) }

pub sign_ahead : {G : Follow} (n : ℕ) → Carries (ASign n) G (Ahead n)
sign_ahead n = record { on = λ b ts k r g. subst (λ z. Ahead n z) (sym r.split) refl }

pub ahead_above : (n m : ℕ) (k : List Token) → m < rank (Sign n) → Ahead n k → Above m k
ahead_above n m [] h f = absurd f
ahead_above n m (t ∷ k) h f = subst (λ z. m < rank z) (sym f) h

pub not_ahead : (n : ℕ) (k : List Token) → NotSign n k → Ahead n k → ⊥
not_ahead n [] f a = a
not_ahead n (t ∷ k) f a = f a

-- the same token in front of what it begins
pub same_first : (t : Token) (ts us rest : List Token) → ts ≡ t ∷ rest → SameFront ts us → (vs : List Token) × (us ≡ t ∷ vs)
same_first t [] us rest e h = let i : ⊥ = cc in absurd i
same_first t (u ∷ ts) [] rest e h = absurd h
same_first t (u ∷ ts) (v ∷ us) rest e h = (us, let i : v ≡ t = cc in ap (λ z. z ∷ us) i)

pub then_fills : {P Q : Phrases} {room : ℕ} → Fills P room → Fills Q room → Fills (Then P Q) room
then_fills {room = room} p q = record {
  with_ = λ low. record {
    more = (p.with_ low).more ++ (q.with_ low).more;
    spelled = λ k. record {
      middle = (q.with_ low).more ++ k;
      first = rw append_assoc ((p.with_ low).spelled ((q.with_ low).more ++ k));
      second = (q.with_ low).spelled k;
    };
  };
}

pub one_fills : {X : Type 0} {origin_of : X → Sort} (room : ℕ) → X → Fills (One origin_of) room
one_fills {origin_of = origin_of} room x = record {
  with_ = λ low. record {
    more = at (record { first = 0; after = 0 }) (origin_of x) ∷ [];
    spelled = λ k. record { span = record { first = 0; after = 0 }; value = x; split = refl };
  };
}

-- ---- one token

pub one_reads : {X : Type 0} (origin_of : X → Sort) (room : ℕ) (s : Span) (x : X) {ts rest : List Token} → ts ≡ at s (origin_of x) ∷ rest → Reads (One origin_of) Anything room ts rest
one_reads origin_of room s x e = record {
  seen = at s (origin_of x) ∷ [];
  split = e;
  again = λ low k. record { span = s; value = x; split = refl };
  only = λ low us k h r f. let g : at s (origin_of x) ∷ us ≡ at r.span (origin_of r.value) ∷ k = r.split in cc;
}

pub one_none : {X : Type 0} (origin_of : X → Sort) (x : X) (s : Span) (k us : List Token) → us ≡ at s (origin_of x) ∷ k → Front (λ t. (y : X) → t.sort ≡ origin_of y → ⊥) us → ⊥
one_none origin_of x s k [] e f = let h : ⊥ = cc in h
one_none origin_of x s k (u ∷ us) e f = f x (let h : u ≡ at s (origin_of x) = cc in ap (λ z. z.sort) h)

pub one_fails : {X : Type 0} (origin_of : X → Sort) (room : ℕ) (x : X) {ts : List Token} → Front (λ t. (y : X) → t.sort ≡ origin_of y → ⊥) ts → Fails (One origin_of) Anything false room ts ts
one_fails origin_of room x {ts = ts} n = record {
  seen = [];
  split = refl;
  begins = (one_fills room x).with_ true;
  goes_on = tt;
  dead = λ us k h r f. one_none origin_of r.value r.span k us r.split (front_same _ ts us h n);
}

pub not_sort : (s : Sort) (ts : List Token) → Front (λ t. t.sort ≡ s → ⊥) ts → Front (λ t. (y : Unit {0}) → t.sort ≡ s → ⊥) ts
not_sort s [] f = tt
not_sort s (t ∷ ts) f = λ y. f

-- another sign, keyword, number or name
pub sign_fails : (n room : ℕ) (ts : List Token) (e : Failure) → IsSyntax ts e × NotSign n ts → FailsAs (ASign n) Anything room ts e
sign_fails n room ts NoMemory f = no_memory
sign_fails n room ts (Syntax left) f = syntax (subst (λ z. Fails (ASign n) Anything false room ts z) (sym f.0) (one_fails (λ x. Sign n) room tt (not_sort (Sign n) ts f.1)))
sign_fails n room ts (Deep left) f = absurd f.0

pub key_fails : (n room : ℕ) (ts : List Token) (e : Failure) → IsSyntax ts e × NotKey n ts → FailsAs (AKey n) Anything room ts e
key_fails n room ts NoMemory f = no_memory
key_fails n room ts (Syntax left) f = syntax (subst (λ z. Fails (AKey n) Anything false room ts z) (sym f.0) (one_fails (λ x. Key n) room tt (not_sort (Key n) ts f.1)))
key_fails n room ts (Deep left) f = absurd f.0

pub number_fails : (room : ℕ) (ts : List Token) (e : Failure) → IsSyntax ts e × NotNumber ts → FailsAs ANumber Anything room ts e
number_fails room ts NoMemory f = no_memory
number_fails room ts (Syntax left) f = syntax (subst (λ z. Fails ANumber Anything false room ts z) (sym f.0) (one_fails Number room 0 f.1))
number_fails room ts (Deep left) f = absurd f.0

pub name_fails : (room : ℕ) (ts : List Token) (e : Failure) → IsSyntaxOrMemory (NotName ts) ts e → FailsAs AName Anything room ts e
name_fails room ts NoMemory f = no_memory
name_fails room ts (Syntax left) f = syntax (subst (λ z. Fails AName Anything false room ts z) (sym f.0) (one_fails Word room [] f.1))
name_fails room ts (Deep left) f = absurd f

-- ---- one phrase, then another

pub then_reads : {P Q : Phrases} {F G : Follow} {room : ℕ} {ts us rest : List Token} → Carries Q G F → Reads P F room ts us → Reads Q G room us rest → Reads (Then P Q) G room ts rest
then_reads {P = P} {Q = Q} {F = F} {room = room} {us = us} {rest = rest} c p q = record {
  seen = p.seen ++ q.seen;
  split = p.split ∙ (ap (λ z. p.seen ++ z) q.split ∙ sym (append_assoc p.seen q.seen rest));
  again = λ low k. record { middle = q.seen ++ k; first = rw append_assoc (p.again low (q.seen ++ k)); second = q.again low k };
  only = λ low vs k h r f.
      let g : r.middle ≡ q.seen ++ vs = p.only low (q.seen ++ vs) r.middle (same_behind q.seen rest vs us h q.split) (rw append_assoc at r.first) (c.on (bound_of low room) r.middle k r.second f) in
      q.only low vs k h (subst (λ z. Q (bound_of low room) z k) g r.second) f;
}

completes_first : {P Q : Phrases} {b : Bound} {seen : List Token} → Completes P b seen → Completes Q b [] → Completes (Then P Q) b seen
completes_first {seen = seen} p q = record {
  more = p.more ++ q.more;
  spelled = λ k. record { middle = q.more ++ k; first = rw append_assoc (p.spelled (q.more ++ k)); second = q.spelled k };
}

starts_first : {P Q : Phrases} {seen left : List Token} → Completes Q NoBound [] → Starts (HasRead seen P) left → Starts (HasRead seen (Then P Q)) left
starts_first {seen = seen} q g = record {
  token = g.token;
  rest = g.rest;
  split = g.split;
  on = record {
    more = g.on.more ++ q.more;
    spelled = λ k. record {
      whole = record {
        middle = q.more ++ k;
        first = rw append_assoc (g.on.spelled (q.more ++ k)).whole;
        second = q.spelled k;
      };
    };
  };
}

-- the first phrase fails
pub first_fails : {P Q : Phrases} {F G : Follow} {room : ℕ} {ts : List Token} {e : Failure} → Carries Q G F → Fills Q room → FailsAs P F room ts e → FailsAs (Then P Q) G room ts e
first_fails c q no_memory = no_memory
first_fails c q (syntax p) = syntax (record {
  seen = p.seen;
  split = p.split;
  begins = completes_first p.begins (q.with_ true);
  goes_on = tt;
  dead = λ us k h r g. p.dead us r.middle h r.first (c.on NoBound r.middle k r.second g);
})
first_fails {room = room} c q (deep p) = deep (record {
  seen = p.seen;
  split = p.split;
  begins = completes_first p.begins (q.with_ true);
  goes_on = starts_first (q.with_ false) p.goes_on;
  dead = λ us k h r g. p.dead us r.middle h r.first (c.on (AtMost room) r.middle k r.second g);
})

-- the first is read
past : {P Q : Phrases} {F : Follow} {room : ℕ} {ts us : List Token} (low : Bool) (p : Reads P F room ts us) (seen : List Token) → Completes Q (bound_of low room) seen → Completes (Then P Q) (bound_of low room) (p.seen ++ seen)
past low p seen q = record {
  more = q.more;
  spelled = λ k. record { middle = seen ++ (q.more ++ k); first = rw append_assoc (p.again low (seen ++ (q.more ++ k))); second = q.spelled k };
}

past_dead : {P Q : Phrases} {F G : Follow} {room : ℕ} {ts us : List Token} (low : Bool) (p : Reads P F room ts us) (seen left : List Token) → us ≡ seen ++ left → Carries Q G F →
    ((vs k : List Token) → SameFront left vs → Q (bound_of low room) (seen ++ vs) k → G k → ⊥) →
    (vs k : List Token) → SameFront left vs → Then P Q (bound_of low room) ((p.seen ++ seen) ++ vs) k → G k → ⊥
past_dead {Q = Q} {room = room} {us = us} low p seen left e c dead vs k h r g =
    let i : r.middle ≡ seen ++ vs = p.only low (seen ++ vs) r.middle (same_behind seen left vs us h e) (rw append_assoc at r.first) (c.on (bound_of low room) r.middle k r.second g) in
    dead vs k h (subst (λ z. Q (bound_of low room) z k) i r.second) g

pub past_split : (pre us seen left ts : List Token) → ts ≡ pre ++ us → us ≡ seen ++ left → ts ≡ (pre ++ seen) ++ left
past_split pre us seen left ts e f = e ∙ (ap (λ z. pre ++ z) f ∙ sym (append_assoc pre seen left))

past_starts : {P Q : Phrases} {F : Follow} {room : ℕ} {ts us : List Token} (p : Reads P F room ts us) (seen left : List Token) → Starts (HasRead seen Q) left → Starts (HasRead (p.seen ++ seen) (Then P Q)) left
past_starts p seen left q = record {
  token = q.token;
  rest = q.rest;
  split = q.split;
  on = record {
    more = q.on.more;
    spelled = λ k. record {
      whole = record {
        middle = seen ++ (q.token ∷ (q.on.more ++ k));
        first = rw append_assoc (p.again false (seen ++ (q.token ∷ (q.on.more ++ k))));
        second = (q.on.spelled k).whole;
      };
    };
  };
}

-- what follows it fails
pub then_fails : {P Q : Phrases} {F G : Follow} {room : ℕ} {ts us : List Token} {e : Failure} → Carries Q G F → Reads P F room ts us → FailsAs Q G room us e → FailsAs (Then P Q) G room ts e
then_fails c p no_memory = no_memory
then_fails {ts = ts} {us = us} c p (syntax {left = left} q) = syntax (record {
  seen = p.seen ++ q.seen;
  split = past_split p.seen us q.seen left.now ts p.split q.split;
  begins = past true p q.seen q.begins;
  goes_on = tt;
  dead = past_dead false p q.seen left.now q.split c q.dead;
})
then_fails {ts = ts} {us = us} c p (deep {left = left} q) = deep (record {
  seen = p.seen ++ q.seen;
  split = past_split p.seen us q.seen left.now ts p.split q.split;
  begins = past true p q.seen q.begins;
  goes_on = past_starts p q.seen left.now q.goes_on;
  dead = past_dead true p q.seen left.now q.split c q.dead;
})

-- one token is read, and what follows it fails
pub one_then : {X : Type 0} (origin_of : X → Sort) {Q : Phrases} {G : Follow} {room : ℕ} {ts us : List Token} {e : Failure} (s : Span) (x : X) → ts ≡ at s (origin_of x) ∷ us → FailsAs Q G room us e → FailsAs (Then (One origin_of) Q) G room ts e
one_then origin_of {room = room} s x h q = then_fails carries_anything (one_reads origin_of room s x h) q

-- ---- rules

-- within a room, a phrase after some tokens is a row of parts within another, and every such row is one, as far as the token in front tells
pub record RuleAt (room m : ℕ) (pre : List Token) (Row : Phrases) (G : Follow) (P : Phrases) (F : Follow) (ts : List Token) : Type 0 where
  pub make : (low : Bool) (us k : List Token) → Row (bound_of low m) us k → P (bound_of low room) (pre ++ us) k
  pub row : (low : Bool) (us k : List Token) → SameFront ts us → P (bound_of low room) (pre ++ us) k → F k → Row (bound_of low m) us k
  pub follow : (low : Bool) (us k : List Token) → SameFront ts us → P (bound_of low room) (pre ++ us) k → F k → G k

pub at_reads : {pre : List Token} {Row P : Phrases} {G F : Follow} {room m : ℕ} {ts rest : List Token} → RuleAt room m pre Row G P F ts → Reads Row G m ts rest → Reads (HasRead pre P) F room ts rest
at_reads {ts = ts} {rest = rest} r d = record {
  seen = d.seen;
  split = d.split;
  again = λ low k. record { whole = r.make low (d.seen ++ k) k (d.again low k) };
  only = λ low us k s w f.
      let h = same_behind d.seen rest us ts s d.split in
      d.only low us k s (r.row low (d.seen ++ us) k h w.whole f) (r.follow low (d.seen ++ us) k h w.whole f);
}

at_completes : {pre : List Token} {Row P : Phrases} {G F : Follow} {room m : ℕ} {ts : List Token} (r : RuleAt room m pre Row G P F ts) (low : Bool) (seen : List Token) → Completes Row (bound_of low m) seen → Completes (HasRead pre P) (bound_of low room) seen
at_completes r low seen c = record { more = c.more; spelled = λ k. record { whole = r.make low (seen ++ (c.more ++ k)) k (c.spelled k) } }

at_starts : {pre : List Token} {Row P : Phrases} {G F : Follow} {room m : ℕ} {ts : List Token} (r : RuleAt room m pre Row G P F ts) (seen left : List Token) → Starts (HasRead seen Row) left → Starts (HasRead seen (HasRead pre P)) left
at_starts r seen left g = record {
  token = g.token;
  rest = g.rest;
  split = g.split;
  on = record {
    more = g.on.more;
    spelled = λ k. record { whole = record { whole = r.make false (seen ++ (g.token ∷ (g.on.more ++ k))) k (g.on.spelled k).whole } };
  };
}

at_dead : {pre : List Token} {Row P : Phrases} {G F : Follow} {room m : ℕ} {ts : List Token} (r : RuleAt room m pre Row G P F ts) (low : Bool) (seen left : List Token) → ts ≡ seen ++ left →
    ((us k : List Token) → SameFront left us → Row (bound_of low m) (seen ++ us) k → G k → ⊥) →
    (us k : List Token) → SameFront left us → HasRead pre P (bound_of low room) (seen ++ us) k → F k → ⊥
at_dead {ts = ts} r low seen left e dead us k s w f =
    let h = same_behind seen left us ts s e in
    dead us k s (r.row low (seen ++ us) k h w.whole f) (r.follow low (seen ++ us) k h w.whole f)

pub at_fails : {pre : List Token} {Row P : Phrases} {G F : Follow} {room m : ℕ} {ts : List Token} {e : Failure} → RuleAt room m pre Row G P F ts → FailsAs Row G m ts e → FailsAs (HasRead pre P) F room ts e
at_fails r no_memory = no_memory
at_fails r (syntax {left = left} d) = syntax (record {
  seen = d.seen;
  split = d.split;
  begins = at_completes r true d.seen d.begins;
  goes_on = tt;
  dead = at_dead r false d.seen left.now d.split d.dead;
})
at_fails r (deep {left = left} d) = deep (record {
  seen = d.seen;
  split = d.split;
  begins = at_completes r true d.seen d.begins;
  goes_on = at_starts r d.seen left.now d.goes_on;
  dead = at_dead r true d.seen left.now d.split d.dead;
})

-- the same within every bound
pub record Rule (part : Part) (pre : List Token) (Row : Phrases) (G : Follow) (P : Phrases) (F : Follow) (ts : List Token) : Type 0 where
  pub make : (b : Bound) → HasRoom b → (us k : List Token) → Row (part_of part b) us k → P b (pre ++ us) k
  pub parts : (b : Bound) (us k : List Token) → SameFront ts us → P b (pre ++ us) k → F k → Row (part_of part b) us k × G k

in_part : (part : Part) (low : Bool) (room : ℕ) → part_of part (bound_of low room) ≡ bound_of low (room_of part room)
in_part Same low room = refl
in_part Inside false room = refl
in_part Inside true room = refl
in_part Alone false room = refl
in_part Alone true room = refl

pub rule_at : {part : Part} {pre : List Token} {Row P : Phrases} {G F : Follow} {ts : List Token} → Rule part pre Row G P F ts → (room : ℕ) → 1 ≤ room → RuleAt room (room_of part room) pre Row G P F ts
rule_at {part = part} {Row = Row} r room h = record {
  make = λ low us k d. r.make (bound_of low room) (room_here low room h) us k (subst (λ z. Row z us k) (sym (in_part part low room)) d);
  row = λ low us k s d f. subst (λ z. Row z us k) (in_part part low room) (r.parts (bound_of low room) us k s d f).0;
  follow = λ low us k s d f. (r.parts (bound_of low room) us k s d f).1;
}

pub rule_reads : {part : Part} {pre : List Token} {Row P : Phrases} {G F : Follow} {room : ℕ} {ts rest : List Token} → Rule part pre Row G P F ts → 1 ≤ room → Reads Row G (room_of part room) ts rest → Reads (HasRead pre P) F room ts rest
rule_reads {room = room} r h d = at_reads (rule_at r room h) d

pub rule_fails : {part : Part} {pre : List Token} {Row P : Phrases} {G F : Follow} {room : ℕ} {ts : List Token} {e : Failure} → Rule part pre Row G P F ts → 1 ≤ room → FailsAs Row G (room_of part room) ts e → FailsAs (HasRead pre P) F room ts e
rule_fails {room = room} r h d = at_fails (rule_at r room h) d

-- ---- tokens before

pub behind_reads : {pre : List Token} {P : Phrases} {F : Follow} {room : ℕ} {us rest : List Token} (ts : List Token) → ts ≡ pre ++ us → Reads (HasRead pre P) F room us rest → Reads P F room ts rest
behind_reads {pre = pre} {us = us} {rest = rest} ts e d = record {
  seen = pre ++ d.seen;
  split = past_split pre us d.seen rest ts e d.split;
  again = λ low k. rw append_assoc (d.again low k).whole;
  only = λ low vs k h w f. d.only low vs k h (record { whole = rw append_assoc at w }) f;
}

behind_completes : {pre : List Token} {P : Phrases} {b : Bound} {seen : List Token} → Completes (HasRead pre P) b seen → Completes P b (pre ++ seen)
behind_completes c = record { more = c.more; spelled = λ k. rw append_assoc (c.spelled k).whole }

behind_starts : {pre : List Token} {P : Phrases} {seen left : List Token} → Starts (HasRead seen (HasRead pre P)) left → Starts (HasRead (pre ++ seen) P) left
behind_starts g = record {
  token = g.token;
  rest = g.rest;
  split = g.split;
  on = record { more = g.on.more; spelled = λ k. record { whole = rw append_assoc (g.on.spelled k).whole.whole } };
}

pub behind_fails : {pre : List Token} {P : Phrases} {F : Follow} {room : ℕ} {us : List Token} {e : Failure} (ts : List Token) → ts ≡ pre ++ us → FailsAs (HasRead pre P) F room us e → FailsAs P F room ts e
behind_fails ts h no_memory = no_memory
behind_fails {pre = pre} {us = us} ts h (syntax {left = left} d) = syntax (record {
  seen = pre ++ d.seen;
  split = past_split pre us d.seen left.now ts h d.split;
  begins = behind_completes d.begins;
  goes_on = tt;
  dead = λ vs k s w f. d.dead vs k s (record { whole = rw append_assoc at w }) f;
})
behind_fails {pre = pre} {us = us} ts h (deep {left = left} d) = deep (record {
  seen = pre ++ d.seen;
  split = past_split pre us d.seen left.now ts h d.split;
  begins = behind_completes d.begins;
  goes_on = behind_starts d.goes_on;
  dead = λ vs k s w f. d.dead vs k s (record { whole = rw append_assoc at w }) f;
})

-- a rule of no tokens before
pub row_reads : {part : Part} {Row P : Phrases} {G F : Follow} {room : ℕ} {ts rest : List Token} → Rule part [] Row G P F ts → 1 ≤ room → Reads Row G (room_of part room) ts rest → Reads P F room ts rest
row_reads {ts = ts} r h d = behind_reads ts refl (rule_reads r h d)

pub row_fails : {part : Part} {Row P : Phrases} {G F : Follow} {room : ℕ} {ts : List Token} {e : Failure} → Rule part [] Row G P F ts → 1 ≤ room → FailsAs Row G (room_of part room) ts e → FailsAs P F room ts e
row_fails {ts = ts} r h d = behind_fails ts refl (rule_fails r h d)

-- ---- the first token

-- it begins no phrase
pub none_fails : {P : Phrases} {F : Follow} {room : ℕ} {ts : List Token} → Completes P (AtMost room) [] → StartsNone P ts → Fails P F false room ts ts
none_fails c n = record { seen = []; split = refl; begins = c; goes_on = tt; dead = λ us k h w f. n.none us k h w }

pub token_fails : {P : Phrases} {F : Follow} {room : ℕ} (ts : List Token) (e : Failure) → Completes P (AtMost room) [] → StartsNone P ts → IsSyntax ts e → FailsAs P F room ts e
token_fails ts NoMemory c n i = no_memory
token_fails {P = P} {F = F} {room = room} ts (Syntax left) c n i = syntax (subst (λ z. Fails P F false room ts z) (sym i) (none_fails c n))
token_fails ts (Deep left) c n i = absurd i

-- it begins phrases, but for none there is room
pub high_fails : {P : Phrases} {F : Follow} {room : ℕ} {ts : List Token} → Completes P (AtMost room) [] → Starts P ts → ((us k : List Token) → SameFront ts us → P (AtMost room) us k → F k → ⊥) → Fails P F true room ts ts
high_fails c p n = record {
  seen = [];
  split = refl;
  begins = c;
  goes_on = record { token = p.token; rest = p.rest; split = p.split; on = record { more = p.on.more; spelled = λ k. record { whole = p.on.spelled k } } };
  dead = n;
}

-- it begins no first part
pub part_none_fails : {part : Part} {pre : List Token} {P Q W : Phrases} {G F : Follow} {room : ℕ} {ts : List Token} → Rule part pre (Then P Q) G W F ts → Completes (HasRead pre W) (AtMost room) [] → StartsNone P ts → Fails (HasRead pre W) F false room ts ts
part_none_fails {P = P} r c n = record {
  seen = [];
  split = refl;
  begins = c;
  goes_on = tt;
  dead = λ us k h w f. let d = (rule_at r 1 (omega arith)).row false us k h w.whole f in n.none us d.middle h d.first;
}

-- it begins a part for which there is no room
pub part_deep_fails : {pre : List Token} {P Q W : Phrases} {G F : Follow} {room : ℕ} {ts : List Token} → Rule Inside pre (Then P Q) G W F ts → room ≡ 1 → Completes (HasRead pre W) (AtMost room) [] → Starts P ts → Completes Q NoBound [] → ((us k : List Token) → P (AtMost 0) us k → ⊥) → Fails (HasRead pre W) F true room ts ts
part_deep_fails {P = P} {room = room} r h c p q n = record {
  seen = [];
  split = refl;
  begins = c;
  goes_on = record {
    token = p.token;
    rest = p.rest;
    split = p.split;
    on = record {
      more = p.on.more ++ q.more;
      spelled = λ k. record {
        whole = record {
          whole = r.make NoBound tt (p.token ∷ ((p.on.more ++ q.more) ++ k)) k (record {
            middle = q.more ++ k;
            first = rw append_assoc (p.on.spelled (q.more ++ k));
            second = q.spelled k;
          });
        };
      };
    };
  };
  dead = λ us k s w f.
      let d = r.parts (AtMost room) us k s w.whole f in
      n us d.0.middle (subst (λ z. P (AtMost (z - 1)) us d.0.middle) h d.0.first);
}

-- ---- the first part

-- the phrase has a first part, with H after it
pub record FirstPart (X : Phrases) (H : Follow) (b : Bound) (us : List Token) : Type 0 where
  pub middle : List Token
  pub part : X b us middle
  pub follow : H middle

-- a part that may be all of the phrase, and is always its first, fails
pub whole_fails : {X P : Phrases} {H F : Follow} {room : ℕ} {ts : List Token} {e : Failure} → ((b : Bound) (us k : List Token) → X b us k → P b us k) → ((b : Bound) (us k : List Token) → P b us k → F k → FirstPart X H b us) → FailsAs X H room ts e → FailsAs P F room ts e
whole_fails make first no_memory = no_memory
whole_fails {room = room} make first (syntax d) = syntax (record {
  seen = d.seen;
  split = d.split;
  begins = record { more = d.begins.more; spelled = λ k. make (AtMost room) (d.seen ++ (d.begins.more ++ k)) k (d.begins.spelled k) };
  goes_on = tt;
  dead = λ us k h w f. let p = first NoBound (d.seen ++ us) k w f in d.dead us p.middle h p.part p.follow;
})
whole_fails {room = room} make first (deep d) = deep (record {
  seen = d.seen;
  split = d.split;
  begins = record { more = d.begins.more; spelled = λ k. make (AtMost room) (d.seen ++ (d.begins.more ++ k)) k (d.begins.spelled k) };
  goes_on = record {
    token = d.goes_on.token;
    rest = d.goes_on.rest;
    split = d.goes_on.split;
    on = record { more = d.goes_on.on.more; spelled = λ k. record { whole = make NoBound (d.seen ++ (d.goes_on.token ∷ (d.goes_on.on.more ++ k))) k (d.goes_on.on.spelled k).whole } };
  };
  dead = λ us k h w f. let p = first (AtMost room) (d.seen ++ us) k w f in d.dead us p.middle h p.part p.follow;
})

-- ---- lists

-- items that may follow one another, each with F after it, and of which none begins with what may follow the list
pub record Listed (P : Phrases) (F G : Follow) : Type 0 where
  pub starts : (b : Bound) (ts k : List Token) → P b ts k → F ts
  pub ends : (b : Bound) (ts us k : List Token) → P b ts k → SameFront ts us → G us → ⊥
  pub over : (k : List Token) → G k → F k

-- each item after a sign
pub sign_listed : (sign m n : ℕ) (Q : Phrases) → m < rank (Sign sign) → rank (Sign sign) ≤ n → m ≤ n → Listed (Then (ASign sign) Q) (Above m) (Above n)
sign_listed sign m n Q h g i = record {
  starts = λ b ts k d. subst (λ z. Above m z) (sym d.first.split) h;
  ends = λ b ts us k d s f.
      let j : Above n (at d.first.span (Sign sign) ∷ d.middle) = subst (λ z. Above n z) d.first.split (above_same n us ts (same_back ts us s) f) in
      absurd (omega arith);
  over = λ k f. above_weaken m n k f i;
}
  where
    same_back : (ts us : List Token) → SameFront ts us → SameFront us ts
    same_back [] [] s = tt
    same_back [] (u ∷ us) s = absurd s
    same_back (t ∷ ts) [] s = absurd s
    same_back (t ∷ ts) (u ∷ us) s = sym s

pub many_carries : {P : Phrases} {F G : Follow} → Listed P F G → Carries (Many P) G F
many_carries {P = P} {F = F} {G = G} l = record { on = λ b ts k d g. front b ts k d g }
  where
    front : (b : Bound) (ts k : List Token) → Many P b ts k → G k → F ts
    front b ts k none g = l.over k g
    front b ts k (next {us = us} d e) g = l.starts b ts us d

pub many_fills : {P : Phrases} (room : ℕ) → Fills (Many P) room
many_fills room = record { with_ = λ low. record { more = []; spelled = λ k. none } }

-- where an item begins, the list has one
list_rule : {P : Phrases} {G : Follow} {ts : List Token} → ((us : List Token) → SameFront ts us → G us → ⊥) → Rule Same [] (Then P (Many P)) G (Many P) G ts
list_rule {P = P} {G = G} {ts = ts} n = record { make = λ b h us k d. next d.first d.second; parts = λ b us k s d g. (apart b us k s d g, g) }
  where
    apart : (b : Bound) (us k : List Token) → SameFront ts us → Many P b us k → G k → Then P (Many P) b us k
    apart b us k s none g = absurd (n us s g)
    apart b us k s (next {us = vs} d e) g = record { middle = vs; first = d; second = e }

item_here : {P : Phrases} {F G : Follow} {room : ℕ} {ts rest : List Token} → Listed P F G → Reads P F room ts rest → (us : List Token) → SameFront ts us → G us → ⊥
item_here {P = P} {room = room} {ts = ts} {rest = rest} l d us s g =
    l.ends (AtMost room) ts us rest (subst (λ z. P (AtMost room) z rest) (sym d.split) (d.again true rest)) s g

-- what is read or fails after them is the list's
pub read_many_reads : {P : Phrases} {F G : Follow} {room : ℕ} {ts us rest : List Token} → Listed P F G → 1 ≤ room → ReadMany P F room ts us → Reads (Many P) G room us rest → Reads (Many P) G room ts rest
read_many_reads l h read_none r = r
read_many_reads l h (read_next m d) r = read_many_reads l h m (row_reads (list_rule (item_here l d)) h (then_reads (many_carries l) d r))

pub read_many_fails : {P : Phrases} {F G : Follow} {room : ℕ} {ts us : List Token} {e : Failure} → Listed P F G → 1 ≤ room → ReadMany P F room ts us → FailsAs (Many P) G room us e → FailsAs (Many P) G room ts e
read_many_fails l h read_none r = r
read_many_fails l h (read_next m d) r = read_many_fails l h m (row_fails (list_rule (item_here l d)) h (then_fails (many_carries l) d r))

-- the next item fails
pub item_fails : {P : Phrases} {F G : Follow} {room : ℕ} {ts : List Token} {e : Failure} → Listed P F G → 1 ≤ room → ((us : List Token) → SameFront ts us → G us → ⊥) → FailsAs P F room ts e → FailsAs (Many P) G room ts e
item_fails {room = room} l h n d = row_fails (list_rule n) h (first_fails (many_carries l) (many_fills room) d)

-- no further item
pub many_ends : {P : Phrases} {G : Follow} {room : ℕ} {ts : List Token} → ((low : Bool) (us k : List Token) → SameFront ts us → P (bound_of low room) us k → ⊥) → Reads (Many P) G room ts ts
many_ends {P = P} {G = G} {room = room} {ts = ts} n = record {
  seen = [];
  split = refl;
  again = λ low k. none;
  only = λ low us k h d g. last low us k h d;
}
  where
    last : (low : Bool) (us k : List Token) → SameFront ts us → Many P (bound_of low room) us k → k ≡ us
    last low us k h none = refl
    last low us k h (next {us = vs} d e) = absurd (n low us vs h d)

-- ---- at least one

longer : (t : Token) (seen more k : List Token) → (t ∷ seen) ++ (more ++ k) ≡ k → ⊥
longer t seen more k e = let h = ap length e in omega (arith, length-append seen (more ++ k), length-append more k)

some_of : {P : Phrases} {b : Bound} {ts k : List Token} → (ts ≡ k → ⊥) → Many P b ts k → Then P (Many P) b ts k
some_of n none = absurd (n refl)
some_of n (next {us = us} d e) = record { middle = us; first = d; second = e }

some_completes : {P : Phrases} {b : Bound} (seen : List Token) → Completes (Then P (Many P)) b [] → Completes (Many P) b seen → Completes (Then P (Many P)) b seen
some_completes [] c d = c
some_completes (t ∷ seen) c d = record { more = d.more; spelled = λ k. some_of (longer t seen d.more k) (d.spelled k) }

next_starts : {P : Phrases} (seen left : List Token) → Starts (HasRead seen (Many P)) left → Starts (HasRead seen (Then P (Many P))) left
next_starts seen left d = record {
  token = d.token;
  rest = d.rest;
  split = d.split;
  on = record { more = d.on.more; spelled = λ k. record { whole = some_of (beyond seen d.token d.on.more k) (d.on.spelled k).whole } };
}
  where
    beyond : (seen : List Token) (t : Token) (more k : List Token) → seen ++ (t ∷ (more ++ k)) ≡ k → ⊥
    beyond seen t more k e = let h = ap length e in omega (arith, length-append seen (t ∷ (more ++ k)), length-append more k)

pub some_fails : {P : Phrases} {G : Follow} {room : ℕ} {ts : List Token} {e : Failure} → Fills P room → FailsAs (Many P) G room ts e → FailsAs (Then P (Many P)) G room ts e
some_fails f no_memory = no_memory
some_fails {room = room} f (syntax {left = left} d) = syntax (record {
  seen = d.seen;
  split = d.split;
  begins = some_completes d.seen ((then_fills f (many_fills room)).with_ true) d.begins;
  goes_on = tt;
  dead = λ us k h w g. d.dead us k h (next w.first w.second) g;
})
some_fails {room = room} f (deep {left = left} d) = deep (record {
  seen = d.seen;
  split = d.split;
  begins = some_completes d.seen ((then_fills f (many_fills room)).with_ true) d.begins;
  goes_on = next_starts d.seen left.now d.goes_on;
  dead = λ us k h w g. d.dead us k h (next w.first w.second) g;
})

-- something was read
pub some_reads : {P : Phrases} {G : Follow} {room : ℕ} {ts rest : List Token} → (rest ≡ ts → ⊥) → Reads (Many P) G room ts rest → Reads (Then P (Many P)) G room ts rest
some_reads {P = P} {room = room} {ts = ts} {rest = rest} n d = record {
  seen = d.seen;
  split = d.split;
  again = λ low k. some_of (not_none d.seen d.split k) (d.again low k);
  only = λ low us k h w g. d.only low us k h (next w.first w.second) g;
}
  where
    not_none : (seen : List Token) → ts ≡ seen ++ rest → (k : List Token) → seen ++ k ≡ k → ⊥
    not_none [] e k g = n (sym e)
    not_none (t ∷ seen) e k g = longer t seen [] k g

-- ---- the sign before an item

-- another sign
pub no_item : {n : ℕ} {Q : Phrases} (room : ℕ) (ts : List Token) → NotSign n ts → (low : Bool) (us k : List Token) → SameFront ts us → Then (ASign n) Q (bound_of low room) us k → ⊥
no_item {n = n} room ts f low us k h d = one_none (λ x. Sign n) tt d.first.span d.middle us d.first.split (not_sort (Sign n) us (front_same _ ts us h f))

-- the sign isn't what follows a list
pub sign_goes_on : {n : ℕ} {s : Span} {ts rest : List Token} (m : ℕ) → ts ≡ at s (Sign n) ∷ rest → rank (Sign n) ≤ m → (us : List Token) → SameFront ts us → Above m us → ⊥
sign_goes_on {n = n} {s = s} {ts = ts} {rest = rest} m e h us g f =
    let (vs, i) = same_first (at s (Sign n)) ts us rest e g in
    let j : m < rank (Sign n) = subst (λ z. Above m z) i f in
    absurd (omega arith)

-- ---- results

pub each_result : {A E : Type 0} {P P' : A → Type 0} {Q Q' : E → Type 0} (r : Result A E) → ((a : A) → P a → P' a) → ((e : E) → Q e → Q' e) → MatchResult r P Q → MatchResult r P' Q'
each_result (Ok a) f g d = f a d
each_result (Err e) f g d = g e d
