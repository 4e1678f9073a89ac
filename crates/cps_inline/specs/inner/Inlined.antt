-- The program in one function: a call of an earlier group gets copies of that group's functions, each after a label.
-- A copy moves every number of its function up by the same base, so that no two copies share a variable or a label. The numbers of a
-- copied group are the next ones: first a label for each function of the program, then those of the copies, in the order of the program.
use Rattle.std.specs.Prelude.{◌≡◌, ℕ, zero, suc, ◌+◌, max, ◌==◌, Bool, true, false, ◌&&◌, if◌then◌else◌, List, [], ◌∷◌, ◌++◌, map, Option, Some, None, slice_get, length}
use Rattle.nv_base.specs.declared.term.Atom.{Atom}
use Rattle.nv_base.specs.declared.term.Atom.TheVariants.{Var, Lit}
use Rattle.nv_base.specs.declared.term.Primitive.{Primitive}
use Rattle.nv_base.specs.declared.term.Primitive.TheVariants.{Same, Una as UnaOf, Bin as BinOf}
use Rattle.cps_ir.specs.declared.program.CpsFun.{CpsFun}
use Rattle.cps_ir.specs.Meaning.{handler_of}
use Rattle.cps_ir.specs.Spine.{put_all}
use Rattle.cps_ir.specs.View.{fun_view}
use Rattle.cps_ir.specs.declared.spine.Step.{Step}
use Rattle.cps_inline.specs.declared.copying.InlineContext as declared
use Rattle.cps_ir.specs.Term.{Handler, Term, Let, Read, Write, If, Fix, Call, Return, Throw, Jump, Halt, Labels, none, label, Fun}

-- ---- numbers moved up by a base

abbrev pub moved : ℕ → List ℕ → List ℕ
moved b xs = map (λ x. b + x) xs

abbrev pub moved_atom : ℕ → Atom → Atom
moved_atom b (Var x) = Var (b + x)
moved_atom b (Lit v) = Lit v

abbrev pub moved_atoms : ℕ → List Atom → List Atom
moved_atoms b as' = map (moved_atom b) as'

abbrev pub moved_primitive : ℕ → Primitive → Primitive
moved_primitive b (Same a) = Same (moved_atom b a)
moved_primitive b (UnaOf op a) = UnaOf op (moved_atom b a)
moved_primitive b (BinOf op a c) = BinOf op (moved_atom b a) (moved_atom b c)

abbrev pub moved_handler : ℕ → Handler → Handler
moved_handler b h = (h.0, b + h.1)

abbrev pub moved_handlers : ℕ → List Handler → List Handler
moved_handlers b hs = map (moved_handler b) hs

-- ---- how many numbers a function has, from 0 on

-- the first number after all of these
abbrev pub behind : List ℕ → ℕ
behind [] = 0
behind (x ∷ xs) = max (x + 1) (behind xs)

abbrev pub after_label : Option ℕ → ℕ
after_label (Some l) = l + 1
after_label None = 0

abbrev pub after_handlers : List Handler → ℕ
after_handlers [] = 0
after_handlers (h ∷ hs) = max (h.1 + 1) (after_handlers hs)

abbrev mutual
  -- the first number after all variables and labels that a term makes, and the labels of its calls
  pub term_span : Term → ℕ
  term_span (Let x a t) = max (x + 1) (term_span t)
  term_span (Read m xs a t) = max (behind xs) (term_span t)
  term_span (Write m a bs t) = term_span t
  term_span (If c a b t u) = max (term_span t) (term_span u)
  term_span (Fix ls t) = max (term_span t) (labels_span ls)
  term_span (Call f bs k hs) = max (after_label k) (after_handlers hs)
  term_span (Return bs) = 0
  term_span (Throw e bs) = 0
  term_span (Jump l bs) = 0
  term_span (Halt e bs) = 0

  pub labels_span : Labels → ℕ
  labels_span none = 0
  labels_span (label l xs t ls) = max (max (l + 1) (behind xs)) (max (term_span t) (labels_span ls))

abbrev pub span : Fun → ℕ
span f = max (behind f.params) (term_span f.body)

-- ---- which functions a call copies: those of the callee's group that return as many words, among which are all that it goes on to
abbrev pub is_copied : Fun → Fun → Bool
is_copied f g = (g.group == f.group) && (g.results == f.results)

-- ---- how many numbers the copies of a term's calls take

-- how many those of a call take, by its callee
abbrev pub Counts : Type 0
Counts = Fun → ℕ

abbrev pub call_count : Counts → Option Fun → ℕ
call_count w (Some f) = w f
call_count w None = 0

abbrev mutual
  pub term_count : List Fun → Counts → Term → ℕ
  term_count funs w (Let x a t) = term_count funs w t
  term_count funs w (Read m xs a t) = term_count funs w t
  term_count funs w (Write m a bs t) = term_count funs w t
  term_count funs w (If c a b t u) = term_count funs w t + term_count funs w u
  term_count funs w (Fix ls t) = term_count funs w t + labels_count funs w ls
  term_count funs w (Call f bs (Some k) hs) = call_count w (slice_get funs f)
  term_count funs w (Call f bs None hs) = 0
  term_count funs w (Return bs) = 0
  term_count funs w (Throw e bs) = 0
  term_count funs w (Jump l bs) = 0
  term_count funs w (Halt e bs) = 0

  pub labels_count : List Fun → Counts → Labels → ℕ
  labels_count funs w none = 0
  labels_count funs w (label l xs t ls) = term_count funs w t + labels_count funs w ls

abbrev pub copy_count : List Fun → Counts → Fun → ℕ
copy_count funs w g = span g + term_count funs w g.body

abbrev pub copies_count : List Fun → Counts → Fun → List Fun → ℕ
copies_count funs w f [] = 0
copies_count funs w f (g ∷ gs) = (if is_copied f g then copy_count funs w g else 0) + copies_count funs w f gs

abbrev pub group_count : List Fun → Counts → Fun → ℕ
group_count funs w f = length funs + copies_count funs w f funs

-- of a call in a function of a group of this number: its callee is of an earlier one
abbrev pub counts : List Fun → ℕ → Counts
counts funs zero f = 0
counts funs (suc own) f = if f.group == own then group_count funs (counts funs own) f else counts funs own f

-- ---- the copy of a term

-- where a copied group stands: the label of the program's first function, where the words go (else they end the run), and the handlers
pub record InlineContext : Type 0 where
  pub first : ℕ
  pub to : Option ℕ
  pub handlers : List Handler

-- of a call: its own label and handlers, those round its function, and its own labels from a number on
abbrev pub context_of_call_in : InlineContext → ℕ → ℕ → List Handler → ℕ → InlineContext
context_of_call_in p b k hs n = record { first = n; to = Some (b + k); handlers = moved_handlers b hs ++ p.handlers }

-- words go to a label, or end the run under a number
abbrev pub return_term : Option ℕ → ℕ → List Atom → Term
return_term (Some l) e bs = Jump l bs
return_term None e bs = Halt e bs

-- a call of a function, by its number, at a place, where n is the next number
abbrev pub Entering : Type 0
Entering = ℕ → Fun → List Atom → Option ℕ → List Handler → ℕ → Term

abbrev pub entered_call : Entering → ℕ → Option Fun → List Atom → Option ℕ → List Handler → ℕ → Term
entered_call enter i (Some f) bs to hs n = enter i f bs to hs n
entered_call enter i None bs to hs n = Halt 0 []

-- a single label is copied after its term, several are copied before it
abbrev pub is_one : Labels → Bool
is_one none = false
is_one (label l xs t none) = true
is_one (label l xs t (label k ys u ls)) = false

abbrev mutual
  -- a term of a function whose numbers are moved by b, where n is the next number
  pub copied : List Fun → Entering → Counts → InlineContext → ℕ → Term → ℕ → Term
  copied funs enter w p b (Let x a t) n = Let (b + x) (moved_primitive b a) (copied funs enter w p b t n)
  copied funs enter w p b (Read m xs a t) n = Read m (moved b xs) (moved_atom b a) (copied funs enter w p b t n)
  copied funs enter w p b (Write m a bs t) n = Write m (moved_atom b a) (moved_atoms b bs) (copied funs enter w p b t n)
  copied funs enter w p b (If c a d t u) n =
      If c (moved_atom b a) (moved_atom b d) (copied funs enter w p b t n) (copied funs enter w p b u (n + term_count funs w t))
  copied funs enter w p b (Fix ls t) n =
      Fix (copied_labels funs enter w p b ls (if is_one ls then n + term_count funs w t else n)) (copied funs enter w p b t (if is_one ls then n else n + labels_count funs w ls))
  copied funs enter w p b (Call f bs (Some k) hs) n =
      entered_call enter f (slice_get funs f) (moved_atoms b bs) (Some (b + k)) (moved_handlers b hs ++ p.handlers) n
  copied funs enter w p b (Call f bs None hs) n = Jump (p.first + f) (moved_atoms b bs)
  copied funs enter w p b (Return bs) n = return_term p.to 0 (moved_atoms b bs)
  copied funs enter w p b (Throw e bs) n = return_term (handler_of e p.handlers) e (moved_atoms b bs)
  copied funs enter w p b (Jump l bs) n = Jump (b + l) (moved_atoms b bs)
  copied funs enter w p b (Halt e bs) n = Halt e (moved_atoms b bs)

  pub copied_labels : List Fun → Entering → Counts → InlineContext → ℕ → Labels → ℕ → Labels
  copied_labels funs enter w p b none n = none
  copied_labels funs enter w p b (label l xs t ls) n =
      label (b + l) (moved b xs) (copied funs enter w p b t n) (copied_labels funs enter w p b ls (n + term_count funs w t))

-- the labels of the copies for a callee among the functions from number j on
abbrev pub copies : List Fun → Entering → Counts → Fun → InlineContext → ℕ → List Fun → ℕ → Labels
copies funs enter w f p j [] n = none
copies funs enter w f p j (g ∷ gs) n =
    if is_copied f g
    then label (p.first + j) (moved n g.params) (copied funs enter w p n g.body (n + span g)) (copies funs enter w f p (suc j) gs (n + copy_count funs w g))
    else copies funs enter w f p (suc j) gs n

abbrev pub entered : List Fun → Entering → Counts → Entering
entered funs enter w i f bs to hs n =
    Fix (copies funs enter w f (record { first = n; to = to; handlers = hs }) 0 funs (n + length funs)) (Jump (n + i) bs)

-- a call in a function of a group of this number: its callee is of an earlier one
abbrev pub entering : List Fun → ℕ → Entering
entering funs zero i f bs to hs n = Halt 0 []
entering funs (suc own) i f bs to hs n =
    if f.group == own then entered funs (entering funs own) (counts funs own) i f bs to hs n else entering funs own i f bs to hs n

-- ---- the program

abbrev pub operands : List ℕ → List Atom
operands xs = map Var xs

-- the one function: it goes to main's copy, and its own parameters are numbered from 0 on
abbrev pub inlined_main : List Fun → ℕ → Fun → Fun
inlined_main funs main f = record {
  params = f.params;
  results = f.results;
  body = entered funs (entering funs f.group) (counts funs f.group) main f (operands f.params) None [] (behind f.params);
  group = 0;
}

-- ---- what the code comes to

abbrev pub context_view : declared.InlineContext → InlineContext
context_view p = record { first = p.first; to = p.to; handlers = p.handlers.items }

-- at a place of the code
abbrev pub count_at : List CpsFun → declared.InlineContext → Term → ℕ
count_at funs p t = term_count (map fun_view funs) (counts (map fun_view funs) p.group) t

abbrev pub labels_count_at : List CpsFun → declared.InlineContext → Labels → ℕ
labels_count_at funs p ls = labels_count (map fun_view funs) (counts (map fun_view funs) p.group) ls

abbrev pub copy_at : List CpsFun → declared.InlineContext → ℕ → Term → ℕ → Term
copy_at funs p b t n = copied (map fun_view funs) (entering (map fun_view funs) p.group) (counts (map fun_view funs) p.group) (context_view p) b t n

abbrev pub labels_at : List CpsFun → declared.InlineContext → ℕ → Labels → ℕ → Labels
labels_at funs p b ls n = copied_labels (map fun_view funs) (entering (map fun_view funs) p.group) (counts (map fun_view funs) p.group) (context_view p) b ls n

-- of a callee's group, and of the functions from number j on in it
abbrev pub group_count_at : List CpsFun → declared.InlineContext → Fun → ℕ
group_count_at funs p f = group_count (map fun_view funs) (counts (map fun_view funs) p.group) f

abbrev pub copies_count_at : List CpsFun → declared.InlineContext → Fun → List Fun → ℕ
copies_count_at funs p f gs = copies_count (map fun_view funs) (counts (map fun_view funs) p.group) f gs

abbrev pub copies_at : List CpsFun → declared.InlineContext → Fun → ℕ → List Fun → ℕ → Labels
copies_at funs p f j gs n = copies (map fun_view funs) (entering (map fun_view funs) p.group) (counts (map fun_view funs) p.group) f (context_view p) j gs n

abbrev pub copy_count_at : List CpsFun → declared.InlineContext → Fun → ℕ
copy_count_at funs p g = copy_count (map fun_view funs) (counts (map fun_view funs) p.group) g

-- steps, and one more: a node of what follows
abbrev pub Adds : List Step → List Step → (Term → Term) → Type 0
Adds some more node = (t : Term) → put_all more t ≡ put_all some (node t)

-- ---- the measure of the recursion

abbrev mutual
  -- how many nodes and labels a term has
  pub weight : Term → ℕ
  weight (Let x a t) = suc (weight t)
  weight (Read m xs a t) = suc (weight t)
  weight (Write m a bs t) = suc (weight t)
  weight (If c a b t u) = suc (weight t + weight u)
  weight (Fix ls t) = suc (weight t + labels_weight ls)
  weight (Call f bs k hs) = 0
  weight (Return bs) = 0
  weight (Throw e bs) = 0
  weight (Jump l bs) = 0
  weight (Halt e bs) = 0

  pub labels_weight : Labels → ℕ
  labels_weight none = 0
  labels_weight (label l xs t ls) = suc (weight t + labels_weight ls)

-- of functions together
abbrev pub weights : List Fun → ℕ
weights [] = 0
weights (f ∷ fs) = weight f.body + weights fs
