-- Which programs are well formed: what a pass over them may rest on.
use Rattle.std.specs.Prelude.{ℕ, ◌==◌, nat_le, nat_lt, Bool, true, false, ◌&&◌, if◌then◌else◌, List, [], ◌∷◌, ◌++◌, Option, Some, None, slice_get, length}
use Rattle.std.specs.List.{list_all}
use Rattle.nv_base.specs.Access.{is_known, all_known, is_primitive, can_move, is_address}
use Rattle.nv_base.specs.Sets.{all_different}
use Rattle.cps_ir.specs.Term.{Handler, Term, Let, Read, Write, If, Fix, Call, Return, Throw, Jump, Halt, Labels, none, label, Fun}

-- ---- what code defines

abbrev mutual
  -- its variables
  pub defined : Term → List ℕ
  defined (Let x a t) = x ∷ defined t
  defined (Read m xs a t) = xs ++ defined t
  defined (Write m a bs t) = defined t
  defined (If c a b t u) = defined t ++ defined u
  defined (Fix ls t) = defined t ++ labels_defined ls
  defined (Call f bs k hs) = []
  defined (Return bs) = []
  defined (Throw e bs) = []
  defined (Jump l bs) = []
  defined (Halt e bs) = []

  pub labels_defined : Labels → List ℕ
  labels_defined none = []
  labels_defined (label l xs t ls) = (xs ++ defined t) ++ labels_defined ls

abbrev mutual
  -- its labels
  pub made : Term → List ℕ
  made (Let x a t) = made t
  made (Read m xs a t) = made t
  made (Write m a bs t) = made t
  made (If c a b t u) = made t ++ made u
  made (Fix ls t) = made t ++ labels_made ls
  made (Call f bs k hs) = []
  made (Return bs) = []
  made (Throw e bs) = []
  made (Jump l bs) = []
  made (Halt e bs) = []

  pub labels_made : Labels → List ℕ
  labels_made none = []
  labels_made (label l xs t ls) = (l ∷ made t) ++ labels_made ls

-- ---- labels in scope

-- a label, with how many parameters it has; the nearest first
abbrev pub Scoped : Type 0
Scoped = List (ℕ × ℕ)

abbrev pub scoped : Labels → Scoped
scoped none = []
scoped (label l xs t ls) = (l, length xs) ∷ scoped ls

abbrev pub arity : ℕ → Scoped → Option ℕ
arity l [] = None
arity l (s ∷ ss) = if s.0 == l then Some s.1 else arity l ss

-- a label of N words is in scope
abbrev pub takes_as_many : ℕ → Option ℕ → Bool
takes_as_many n (Some m) = m == n
takes_as_many n None = false

abbrev pub takes : Scoped → ℕ → ℕ → Bool
takes ss l n = takes_as_many n (arity l ss)

-- the handlers' labels are in scope, and exceptions are counted from 1
abbrev pub is_there : Option ℕ → Bool
is_there (Some n) = true
is_there None = false

abbrev pub are_handlers : Scoped → List Handler → Bool
are_handlers ss hs = list_all (λ h. nat_le 1 h.0 && is_there (arity h.1 ss)) hs

-- ---- calls in a function of a group that returns n words

-- the words of a call go to a label: the function is of an earlier group
abbrev pub can_call : ℕ → ℕ → Scoped → ℕ → Option Fun → Bool
can_call own given ss l (Some f) = (length f.params == given) && (takes ss l f.results && nat_lt f.group own)
can_call own given ss l None = false

-- the words of a call are the caller's: the function is of the own group
abbrev pub can_go : ℕ → ℕ → ℕ → Option Fun → Bool
can_go own given n (Some f) = (length f.params == given) && ((f.results == n) && (f.group == own))
can_go own given n None = false

abbrev pub is_call : List Fun → ℕ → ℕ → Scoped → ℕ → ℕ → Option ℕ → List Handler → Bool
is_call funs own n ss f given (Some l) hs = can_call own given ss l (slice_get funs f) && are_handlers ss hs
is_call funs own n ss f given None [] = can_go own given n (slice_get funs f)
is_call funs own n ss f given None (h ∷ hs) = false

-- ---- a term in a function of a group, which returns n words, where these labels are in scope and these variables are known

abbrev mutual
  pub is_formed : List Fun → ℕ → ℕ → Scoped → List ℕ → Term → Bool
  is_formed funs own n ss known (Let x a t) = is_primitive known a && is_formed funs own n ss (x ∷ known) t
  is_formed funs own n ss known (Read m xs a t) = is_known known a && (can_move m (length xs) && (is_address m a (length xs) && is_formed funs own n ss (xs ++ known) t))
  is_formed funs own n ss known (Write m a bs t) = is_known known a && (all_known known bs && (can_move m (length bs) && (is_address m a (length bs) && is_formed funs own n ss known t)))
  is_formed funs own n ss known (If c a b t u) = is_known known a && (is_known known b && (is_formed funs own n ss known t && is_formed funs own n ss known u))
  is_formed funs own n ss known (Fix ls t) = are_formed funs own n (scoped ls ++ ss) known ls && is_formed funs own n (scoped ls ++ ss) known t
  is_formed funs own n ss known (Call f bs k hs) = all_known known bs && is_call funs own n ss f (length bs) k hs
  is_formed funs own n ss known (Return bs) = all_known known bs && (length bs == n)
  is_formed funs own n ss known (Throw e bs) = all_known known bs && (nat_le 1 e && nat_le (length bs) 8)
  is_formed funs own n ss known (Jump l bs) = all_known known bs && takes ss l (length bs)
  is_formed funs own n ss known (Halt e bs) = all_known known bs && nat_le (length bs) 8

  -- the bodies of labels, which are in scope already
  pub are_formed : List Fun → ℕ → ℕ → Scoped → List ℕ → Labels → Bool
  are_formed funs own n ss known none = true
  are_formed funs own n ss known (label l xs t ls) = is_formed funs own n ss (xs ++ known) t && are_formed funs own n ss known ls

-- ---- exceptions: all that is thrown or handled under one number has as many words

abbrev pub handled_words : ℕ → Option ℕ → List (ℕ × ℕ)
handled_words e (Some n) = (e, n) ∷ []
handled_words e None = []

-- each handler's number with its label's words
abbrev pub handled : Scoped → List Handler → List (ℕ × ℕ)
handled ss [] = []
handled ss (h ∷ hs) = handled_words h.0 (arity h.1 ss) ++ handled ss hs

abbrev mutual
  -- each throw and each handler: its exception's number, and its words
  pub raised : Scoped → Term → List (ℕ × ℕ)
  raised ss (Let x a t) = raised ss t
  raised ss (Read m xs a t) = raised ss t
  raised ss (Write m a bs t) = raised ss t
  raised ss (If c a b t u) = raised ss t ++ raised ss u
  raised ss (Fix ls t) = labels_raised (scoped ls ++ ss) ls ++ raised (scoped ls ++ ss) t
  raised ss (Call f bs k hs) = handled ss hs
  raised ss (Return bs) = []
  raised ss (Throw e bs) = (e, length bs) ∷ []
  raised ss (Jump l bs) = []
  raised ss (Halt e bs) = []

  pub labels_raised : Scoped → Labels → List (ℕ × ℕ)
  labels_raised ss none = []
  labels_raised ss (label l xs t ls) = raised ss t ++ labels_raised ss ls

abbrev pub all_raised : List Fun → List (ℕ × ℕ)
all_raised [] = []
all_raised (f ∷ fs) = raised [] f.body ++ all_raised fs

abbrev pub agree : List (ℕ × ℕ) → Bool
agree [] = true
agree (r ∷ rest) = list_all (λ s. if s.0 == r.0 then s.1 == r.1 else true) rest && agree rest

-- ---- functions and programs

-- the variables of a function are all different, and so are its labels
abbrev pub is_function : List Fun → Fun → Bool
is_function funs f = is_formed funs f.group f.results [] f.params f.body && (all_different (f.params ++ defined f.body) && all_different (made f.body))

-- main takes at most 8 words, and the functions of its group return at most 8
abbrev pub is_main : List Fun → Option Fun → Bool
is_main funs (Some f) = nat_le (length f.params) 8 && list_all (λ g. if g.group == f.group then nat_le g.results 8 else true) funs
is_main funs None = false

abbrev pub is_program : List Fun → ℕ → Bool
is_program funs main = list_all (is_function funs) funs && (agree (all_raised funs) && is_main funs (slice_get funs main))
