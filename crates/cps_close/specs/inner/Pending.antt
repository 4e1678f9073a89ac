-- Work that is still to be done on a term, the next part last.
use Rattle.std.specs.Prelude.{List, [], ◌∷◌, ◌++◌, reverse}
use Rattle.cps_ir.specs.Term.{Term, Let, Read, Write, If, Fix, Call, Return, Throw, Jump, Halt, Labels, none, label}
use Rattle.cps_ir.specs.View.{Seen, term_view, label_view}
use Rattle.cps_close.specs.declared.collect.Part as declared
use Rattle.cps_close.specs.declared.collect.Part.TheVariants as declared_part
use Rattle.cps_close.specs.inner.Closed.{labels_in}

-- a term, or a label whose body was looked through
pub data Part : Type 0 where
  InTerm : (t : Term) → Part
  AtLabel : (c : Seen) → Part

abbrev pub part_view : declared.Part → Part
part_view (declared_part.Term t) = InTerm (term_view t.now)
part_view (declared_part.Label c) = AtLabel (label_view c.now)

-- labels, and the body of each after it
abbrev pub parts_of : List Seen → List Part
parts_of [] = []
parts_of (c ∷ cs) = AtLabel c ∷ InTerm c.body ∷ parts_of cs

abbrev pub seen_all : Labels → List Seen
seen_all none = []
seen_all (label l xs t ls) = record { label = l; params = xs; body = t } ∷ seen_all ls

-- the parts of a term, the first one last
abbrev pub opened : Term → List Part
opened (Let x a t) = InTerm t ∷ []
opened (Read m xs a t) = InTerm t ∷ []
opened (Write m a bs t) = InTerm t ∷ []
opened (If c a b t u) = InTerm u ∷ InTerm t ∷ []
opened (Fix ls t) = InTerm t ∷ parts_of (reverse (seen_all ls))
opened (Call f bs k hs) = []
opened (Return bs) = []
opened (Throw e bs) = []
opened (Jump l bs) = []
opened (Halt e bs) = []

abbrev pub labels_at : Part → List Seen
labels_at (InTerm t) = labels_in t
labels_at (AtLabel c) = c ∷ []

-- the labels that parts have, in the order in which they come
abbrev pub labels_pending : List Part → List Seen
labels_pending [] = []
labels_pending (p ∷ ps) = labels_pending ps ++ labels_at p
