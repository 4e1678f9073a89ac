-- What is known of each value, and that it is housed.
use Rattle.std.proofs.Common.{◌≡◌, ℕ, ◌<◌, Bool, true, false, ◌||◌, nat_eq, None, List, [], ◌∷◌, filter, refl, sym, ap, subst, ◌∙◌, arith}
use Rattle.std.specs.Prelude.{All}
use Rattle.std.proofs.lemmas.List.Elements.{All-contains}
use Rattle.std.proofs.lemmas.Bool.{or_from, false≢true}
use Rattle.ssu_ir.specs.Tree.{Label}
use Rattle.place_plan.specs.Plan.{Home}
use Rattle.place_plan.specs.Uses.{ValueOrigin, Parameter, Result, Fetched, Value, values, Use, uses, uses_of, is_used}
use Rattle.place_plan.specs.Fits.{is_general, general_places, IsPutEarly, IsHoused, is_result}
use Rattle.place_plan.proofs.Sound.{Each}
use Rattle.bank_prog_form.specs.declared.column.Bank.{Bank}
use Rattle.bank_prog_form.specs.declared.column.Bank.TheVariants.{A, B, M, T, L, A15, W}
use Rattle.bank_prog_form.specs.declared.column.Column.TheVariants.{Def, Fill}
use Rattle.bank_prog_form.specs.Columns.{is_fetched}
use Rattle.bank_prog_form.specs.Rows.{homes, def, is_parameter}
use Rattle.bank_prog.specs.Meaning.{Chosen}
use Rattle.bank_prog_rows.proofs.PlainLines.{each-kept}
use Rattle.reg_assign_reading.specs.inner.Facts.{count, in_bank, ValueFacts, UseFacts}
use Rattle.reg_assign_reading.specs.ReadOff.{Numbers, goes_early, def_bank, first_word, put_home, room, IsBelow, AreNumbered, read_off}
use Rattle.reg_assign_reading.proofs.Counts.{In, contained-in}
use Rattle.reg_assign_reading.proofs.ReadParts.{on-none}
use Rattle.reg_assign_reading.proofs.FitWords.{IsEarlySame}
use Rattle.reg_assign_reading.proofs.FitHomes.{is_home_bank, def-bank-none}
use Rattle.reg_assign_reading.proofs.FitHoused.{Known, put-early, housed-by}
use Rattle.reg_assign_reading.proofs.FitHeld.{IsHomePlace, word-not-general, origin-placed}
use Rattle.reg_assign_reading.proofs.FitRead.{other-banks, IsValue, Reading, value-facts-of, home-is, result-used-of}
use Rattle.reg_assign_reading.proofs.CostValues.{home-in}

-- a value that is in a bank is held somewhere
origin-held : (labels : List Label) (on : Chosen) (v : Value) → ValueFacts labels on v → (is_result v.origin ≡ true → is_used labels v.var ≡ true) → (h : Bank) → in_bank on h v.var ≡ true → (origin : ValueOrigin) → v.origin ≡ origin → (b : Bool) → is_used labels v.var ≡ b → (b || is_parameter origin) ≡ true
origin-held labels on v f used h e origin s true u = refl
origin-held labels on v f used h e (Parameter l j) s false u = refl
origin-held labels on v f used h e Result s false u = absurd (false≢true (sym u ∙ used (ap is_result s)))
origin-held labels on v f used h e (Fetched m j) s false u = absurd (false≢true (sym (or_from (on (Def v.var h)) (on (Fill v.var h)) (f.read (ap is_fetched s) h) (f.unused u h)) ∙ e))

number-below : (labels : List Label) (slots : ℕ) (on : Chosen) (numbers : Numbers) → AreNumbered labels slots on numbers → (v : Value) → In v (values labels) → ValueFacts labels on v → (is_result v.origin ≡ true → is_used labels v.var ≡ true) → (h : Bank) → is_home_bank h ≡ true → in_bank on h v.var ≡ true → numbers h v.var < room slots h
number-below labels slots on numbers n v i f used h b e =
    let all : All (IsBelow labels slots on numbers h) (values labels) = All-contains (λ g. All (IsBelow labels slots on numbers g) (values labels)) homes h n.below (contained-in h homes (home-in h b)) in
    All-contains (IsBelow labels slots on numbers h) (values labels) v all (contained-in v (values labels) i) (origin-held labels on v f used h e v.origin refl (is_used labels v.var) refl) e

pub known-of : (labels : List Label) (slots : ℕ) (on : Chosen) (numbers : Numbers) (hs : List Home) → Reading labels slots on numbers hs → (v : Value) → In v (values labels) → Known labels slots on numbers hs v
known-of labels slots on numbers hs g v i = record {
  facts = value-facts-of labels slots on numbers hs g v i;
  below = number-below labels slots on numbers g.numbered v i (value-facts-of labels slots on numbers hs g v i) (result-used-of labels slots on numbers hs g v i);
  uses_known = each-kept (UseFacts labels on) (λ (u : Use). nat_eq u.value v.var) (uses labels) g.use_facts;
  early_same = g.early;
  early_here = each-kept (IsEarlySame labels slots on numbers hs) (λ (u : Use). nat_eq u.value v.var) (uses labels) g.early;
  there = g.firsts;
}

pub housed : (labels : List Label) (slots : ℕ) (on : Chosen) (numbers : Numbers) (hs : List Home) → Reading labels slots on numbers hs → (v : Value) → In v (values labels) → IsHoused labels (read_off labels slots on numbers hs) v
housed labels slots on numbers hs g v i =
    housed-by labels slots on numbers hs v (known-of labels slots on numbers hs g v i) (other-banks labels on g.only v.var) v.origin refl (λ w. home-is labels slots on numbers hs g v i w)

-- ---- a result that its definition puts into no bank

none-there : (labels : List Label) (on : Chosen) (x : ℕ) → ((h : Bank) → is_home_bank h ≡ false → on (Def x h) ≡ false) → count on (def x) ≡ 0 → (h : Bank) → on (Def x h) ≡ false
none-there labels on x o z A = on-none (on (Def x A)) (omega arith)
none-there labels on x o z B = on-none (on (Def x B)) (omega arith)
none-there labels on x o z M = on-none (on (Def x M)) (omega arith)
none-there labels on x o z T = o T refl
none-there labels on x o z L = o L refl
none-there labels on x o z A15 = o A15 refl
none-there labels on x o z W = o W refl

-- its one use is a word that is put early
pub record EarlyWord (labels : List Label) (on : Chosen) (x : ℕ) : Type 0 where
  pub use_ : Use
  pub one : uses_of labels x ≡ use_ ∷ []
  pub early : goes_early on use_ ≡ true

pub early-word : (labels : List Label) (slots : ℕ) (on : Chosen) (numbers : Numbers) (hs : List Home) → Reading labels slots on numbers hs → (v : Value) → In v (values labels) → v.origin ≡ Result → def_bank on v.var ≡ None → EarlyWord labels on v.var
early-word labels slots on numbers hs g v i e none =
    let k = known-of labels slots on numbers hs g v i in
    let z : count on (def v.var) ≡ 0 = def-bank-none on v.var none in
    let one = k.facts.result (ap is_result e) in
    let w : IsPutEarly labels (read_off labels slots on numbers hs) v.var (put_home labels on numbers v.var None) =
    put-early labels slots on numbers hs v k (ap is_fetched e) z (omega arith) (none-there labels on v.var (other-banks labels on g.only v.var) z) in
    record {
      use_ = w.use_;
      one = w.one;
      early = sym (subst (λ us. Each (IsEarlySame labels slots on numbers hs) us) w.one k.early_here).0 ∙ w.early;
    }

-- ---- general places

early-general : (labels : List Label) (slots : ℕ) (on : Chosen) (numbers : Numbers) (hs : List Home) → Reading labels slots on numbers hs → (v : Value) → In v (values labels) → (origin : ValueOrigin) → v.origin ≡ origin → is_fetched origin ≡ false → def_bank on v.var ≡ None → is_general (first_word on (uses_of labels v.var)) ≡ false
early-general labels slots on numbers hs g v i (Parameter l j) e f none =
    let one = (value-facts-of labels slots on numbers hs g v i).parameter (ap is_parameter e) in
    let z = def-bank-none on v.var none in
    absurd (omega arith)
early-general labels slots on numbers hs g v i Result e f none =
    let w = early-word labels slots on numbers hs g v i e none in
    ap (λ us. is_general (first_word on us)) w.one ∙ word-not-general on w.use_ w.early
early-general labels slots on numbers hs g v i (Fetched m j) e f none = absurd (false≢true (sym f))

pub value-placed : (labels : List Label) (slots : ℕ) (on : Chosen) (numbers : Numbers) (hs : List Home) → Reading labels slots on numbers hs → (x : ℕ) → IsValue labels x → Each (IsHomePlace on numbers x) (general_places (read_off labels slots on numbers hs) x)
value-placed labels slots on numbers hs g x w =
    let v = w.value in
    subst (λ y. Each (IsHomePlace on numbers y) (general_places (read_off labels slots on numbers hs) y)) w.var
    (subst (λ (h : Home). Each (IsHomePlace on numbers v.var) (filter is_general (h.defined ∷ h.copied))) (sym (home-is labels slots on numbers hs g v w.among w.wants))
    (origin-placed labels on numbers v.point v.var v.origin (early-general labels slots on numbers hs g v w.among v.origin refl)))
