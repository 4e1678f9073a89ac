-- The copies of groups, and the program, want no more at once than the source counts.
use Rattle.std.proofs.Common.{◌≡◌, ℕ, zero, suc, ◌+◌, ◌≤◌, ◌<◌, ◌==◌, Bool, true, false, not, max, List, [], ◌∷◌, ◌++◌, length, Option, Some, None, slice_get, if◌then◌else◌, refl, sym, ap, subst, ◌∙◌, ⊎_elim, arith}
use Rattle.std.specs.List.{list_all}
use Rattle.std.proofs.lemmas.Bool.{and_parts, or_cases, eq-eqb, eqb-true, false≢true, ne_eqb}
use Rattle.std.proofs.lemmas.List.{length-map}
use Rattle.std.proofs.lemmas.Option.{none-some, same_Some}
use Rattle.nv_base.specs.declared.term.Atom.{Atom}
use Rattle.nv_base.specs.declared.term.Atom.TheVariants.{Var}
use Rattle.nv_base.specs.Measures.{operands_wide, entry_wide, Widths}
use Rattle.nv_base.specs.Sets.{is_in, Within, different, without, all_vars}
use Rattle.nv_base.proofs.Measures.{operands-more}
use Rattle.nv_base.proofs.Sets.{in-append, in-without, different-below, within-both, within-behind_same}
use Rattle.cps_ir.specs.Formed.{is_function}
use Rattle.cps_ir.specs.Meaning.{handler_of}
use Rattle.cps_ir.specs.Term.{Handler, Term, Labels, label, Fun}
use Rattle.cps_ir.specs.Wide.{Wants, with_wants, to_wants, wants, labels_want, inside, nowhere, term_wide, labels_wide, function_wide, widths_within, group_wide, AreWidths}
use Rattle.cps_inline.specs.inner.Inlined.{Counts, Entering, InlineContext, moved, behind, span, is_copied, copy_count, copied, copies, entered, entering, counts, operands, inlined_main}
use Rattle.cps_inline.proofs.Names.{came-moved}
use Rattle.cps_inline.proofs.Formed.{function-body}
use Rattle.cps_inline.proofs.Simulates.{IsBelow, below-more, Below, class-from, group-less}
use Rattle.cps_inline.proofs.Wants.{in-moved, Fits, fits-none, AllWithin, wants-known}
use Rattle.cps_inline.proofs.Widths.{Wanting, EntersWide, to-same, term-wants, term-width}

-- ---- what a group's labels want

with-either : (t : Bool) (phi : Wants) (ls ks : Labels) (vs us : List ℕ) (l : ℕ) → with_wants phi ls vs l ≡ us → with_wants phi ks vs l ≡ us → with_wants phi (if t then ls else ks) vs l ≡ us
with-either true phi ls ks vs us l h g = h
with-either false phi ls ks vs us l h g = g

module _ (funs : List Fun) (enter : Entering) (wc : Counts) (f : Fun) (p : InlineContext) (phi : Wants) (vs : List ℕ) where
  group-low : (j : ℕ) (gs : List Fun) (n l : ℕ) → l < p.first → with_wants phi (copies funs enter wc f p j gs n) vs l ≡ phi l
  group-low j [] n l lt = refl
  group-low j (g ∷ gs) n l lt =
      with-either (is_copied f g) phi (label (p.first + j) (moved n g.params) (copied funs enter wc p n g.body (n + span g)) (copies funs enter wc f p (suc j) gs (n + copy_count funs wc g))) (copies funs enter wc f p (suc j) gs n) vs (phi l) l
      (ap (λ c. if c then vs else with_wants phi (copies funs enter wc f p (suc j) gs (n + copy_count funs wc g)) vs l) (ne_eqb (p.first + j) l (λ (e : p.first + j ≡ l). omega arith)) ∙ group-low (suc j) gs (n + copy_count funs wc g) l lt)
      (group-low (suc j) gs n l lt)

  group-high : (j : ℕ) (gs : List Fun) (n l : ℕ) → p.first + j + length gs ≤ l → with_wants phi (copies funs enter wc f p j gs n) vs l ≡ phi l
  group-high j [] n l far = refl
  group-high j (g ∷ gs) n l far =
      with-either (is_copied f g) phi (label (p.first + j) (moved n g.params) (copied funs enter wc p n g.body (n + span g)) (copies funs enter wc f p (suc j) gs (n + copy_count funs wc g))) (copies funs enter wc f p (suc j) gs n) vs (phi l) l
      (ap (λ c. if c then vs else with_wants phi (copies funs enter wc f p (suc j) gs (n + copy_count funs wc g)) vs l) (ne_eqb (p.first + j) l (λ (e : p.first + j ≡ l). omega arith)) ∙ group-high (suc j) gs (n + copy_count funs wc g) l (omega arith))
      (group-high (suc j) gs n l (omega arith))

  head-wants : (t : Bool) → t ≡ true → (l l' : ℕ) → l ≡ l' → (xs : List ℕ) (u : Term) (rest ks : Labels) → with_wants phi (if t then label l xs u rest else ks) vs l' ≡ vs
  head-wants true e l l' same xs u rest ks = ap (λ c. if c then vs else with_wants phi rest vs l') (eq-eqb l l' same)
  head-wants false e l l' same xs u rest ks = absurd (false≢true e)

  group-at : (j : ℕ) (gs : List Fun) (n i l : ℕ) (g : Fun) → l ≡ p.first + (j + i) → slice_get gs i ≡ Some g → is_copied f g ≡ true → with_wants phi (copies funs enter wc f p j gs n) vs l ≡ vs
  group-at j [] n i l g el e c = absurd (none-some g e)
  group-at j (h ∷ gs) n zero l g el e c =
      head-wants (is_copied f h) (ap (is_copied f) (same_Some h g e) ∙ c) (p.first + j) l (omega arith) (moved n h.params) (copied funs enter wc p n h.body (n + span h)) (copies funs enter wc f p (suc j) gs (n + copy_count funs wc h)) (copies funs enter wc f p (suc j) gs n)
  group-at j (h ∷ gs) n (suc i) l g el e c =
      with-either (is_copied f h) phi (label (p.first + j) (moved n h.params) (copied funs enter wc p n h.body (n + span h)) (copies funs enter wc f p (suc j) gs (n + copy_count funs wc h))) (copies funs enter wc f p (suc j) gs n) vs vs l
      (ap (λ c. if c then vs else with_wants phi (copies funs enter wc f p (suc j) gs (n + copy_count funs wc h)) vs l) (ne_eqb (p.first + j) l (λ (s : p.first + j ≡ l). omega arith)) ∙ group-at (suc j) gs (n + copy_count funs wc h) i l g (omega arith) e c)
      (group-at (suc j) gs n i l g (omega arith) e c)

nowhere-within : (known : List ℕ) → AllWithin nowhere known
nowhere-within known = record { by = λ l x i. absurd (false≢true i) }

-- a body that wants no more than its parameters
closed : (b : ℕ) (held a' a params : List ℕ) → Fits b held a' a → Within a params → Within (without a' (moved b params)) held
closed b held a' a params h w x i =
    let parts = and_parts (is_in x a') (not (is_in x (moved b params))) (sym (in-without x a' (moved b params)) ∙ i) in
    ⊎_elim
    (λ (j : is_in x (moved b a) ≡ true).
    let c = came-moved b x a j in
    absurd (false≢true (sym (ap not (ap (λ z. is_in z (moved b params)) c.is ∙ in-moved b c.from params (w c.from c.there))) ∙ parts.1)))
    (λ (j : is_in x held ≡ true). j)
    (or_cases (is_in x (moved b a)) (is_in x held) (sym (in-append x (moved b a) held) ∙ h.by x parts.0))

want-either : (t : Bool) (phi : Wants) (ls ks : Labels) (held : List ℕ) → (t ≡ true → Within (labels_want phi ls) held) → Within (labels_want phi ks) held → Within (labels_want phi (if t then ls else ks)) held
want-either true phi ls ks held h g = h refl
want-either false phi ls ks held h g = g

wide-either : (top : List Fun) (v : Widths) (gr : ℕ) (phi : Wants) (vs : List ℕ) (t : Bool) (ls ks : Labels) (m : ℕ) → (t ≡ true → labels_wide top v gr phi vs ls ≤ m) → labels_wide top v gr phi vs ks ≤ m → labels_wide top v gr phi vs (if t then ls else ks) ≤ m
wide-either top v gr phi vs true ls ks m h g = h refl
wide-either top v gr phi vs false ls ks m h g = g

-- each of these functions is as wide as its group at most
abbrev pub AllWide : List Fun → Widths → List Fun → Type 0
AllWide funs w [] = Unit {0}
AllWide funs w (g ∷ gs) = (function_wide funs w g ≤ w g.group) × AllWide funs w gs

module _ (funs top : List Fun) (v : Widths) (gr : ℕ) (w : Widths) (enter : Entering) (wc : Counts) (f : Fun) (enters : EntersWide funs top v gr w f.group enter) (p : InlineContext) (phi : Wants) (held : List ℕ)
    (lt : IsBelow p.first p.to) (lts : (e : ℕ) → IsBelow p.first (handler_of e p.handlers)) (to : Within (to_wants phi p.to) held) (handlers : (e : ℕ) → Within (to_wants phi (handler_of e p.handlers)) held) (later : (l : ℕ) → p.first ≤ l → phi l ≡ []) where
  -- in a copy, where the group's labels want these
  group-wanting : (vs : List ℕ) → Within vs held → (b s : ℕ) → p.first + length funs ≤ b → Wanting funs f.group f.results b s p nowhere (with_wants phi (copies funs enter wc f p 0 funs (p.first + length funs)) vs) held
  group-wanting vs le b s far =
      let old = group-low funs enter wc f p phi vs 0 funs (p.first + length funs) in
      let out = group-high funs enter wc f p phi vs 0 funs (p.first + length funs) in
      record {
        labels = λ l. subst (λ k. Fits b held k []) (sym (out (b + l) (omega arith) ∙ later (b + l) (omega arith))) (fits-none b held []);
        to = to-same phi (with_wants phi (copies funs enter wc f p 0 funs (p.first + length funs)) vs) p.first p.to held old lt to;
        handlers = λ e. to-same phi (with_wants phi (copies funs enter wc f p 0 funs (p.first + length funs)) vs) p.first (handler_of e p.handlers) held old (lts e) (handlers e);
        own = λ i g there eg en. subst (λ k. Within k held) (sym (group-at funs enter wc f p phi vs 0 funs (p.first + length funs) i (p.first + i) g (omega arith) there (class-from f g eg en))) le;
        later = λ l fl. out l (omega arith) ∙ later l (omega arith);
      }

  at-base : (b : ℕ) → p.first + length funs ≤ b → Below funs b p
  at-base b far = record { first = far; to = below-more p.first b p.to (omega arith) lt; handlers = λ e. below-more p.first b (handler_of e p.handlers) (omega arith) (lts e) }

  group-want : (vs : List ℕ) → Within vs held → (j : ℕ) (gs : List Fun) (n : ℕ) → p.first + length funs ≤ n → list_all (is_function funs) gs ≡ true → Within (labels_want (with_wants phi (copies funs enter wc f p 0 funs (p.first + length funs)) vs) (copies funs enter wc f p j gs n)) held
  group-want vs le j [] n far ok = λ x i. absurd (false≢true i)
  group-want vs le j (g ∷ gs) n far ok =
      let parts = and_parts (is_function funs g) (list_all (is_function funs) gs) ok in
      let psi = with_wants phi (copies funs enter wc f p 0 funs (p.first + length funs)) vs in
      want-either (is_copied f g) psi _ (copies funs enter wc f p (suc j) gs n) held
      (λ c.
      let formed = function-body funs f g c parts.0 in
      within-both (without (wants psi (copied funs enter wc p n g.body (n + span g))) (moved n g.params)) (labels_want psi (copies funs enter wc f p (suc j) gs (n + copy_count funs wc g))) held
      (closed n held (wants psi (copied funs enter wc p n g.body (n + span g))) (wants nowhere g.body) g.params
      (term-wants funs top v gr w f.group f.results enter enters wc p n (span g) (at-base n far) g.body [] g.params formed (omega arith) (n + span g) (omega arith) nowhere psi held (group-wanting vs le n (span g) far))
      (wants-known funs f.group f.results g.body [] g.params nowhere formed (nowhere-within g.params)))
      (group-want vs le (suc j) gs (n + copy_count funs wc g) (omega arith) parts.1))
      (group-want vs le (suc j) gs n far parts.1)

  group-width : (vs : List ℕ) → Within vs held → (j : ℕ) (gs : List Fun) (n : ℕ) → p.first + length funs ≤ n → list_all (is_function funs) gs ≡ true → AllWide funs w gs → labels_wide top v gr (with_wants phi (copies funs enter wc f p 0 funs (p.first + length funs)) vs) vs (copies funs enter wc f p j gs n) ≤ different held + w f.group
  group-width vs le j [] n far ok wide = omega arith
  group-width vs le j (g ∷ gs) n far ok wide =
      let parts = and_parts (is_function funs g) (list_all (is_function funs) gs) ok in
      let psi = with_wants phi (copies funs enter wc f p 0 funs (p.first + length funs)) vs in
      wide-either top v gr psi vs (is_copied f g) _ (copies funs enter wc f p (suc j) gs n) (different held + w f.group)
      (λ c.
      let formed = function-body funs f g c parts.0 in
      let same : g.group ≡ f.group = eqb-true g.group f.group (and_parts (g.group == f.group) (g.results == f.results) c).0 in
      let body : term_wide top v gr psi (copied funs enter wc p n g.body (n + span g)) ≤ different held + term_wide funs w f.group nowhere g.body =
      term-width funs top v gr w f.group f.results enter enters wc p n (span g) (at-base n far) g.body [] g.params formed (omega arith) (n + span g) (omega arith) nowhere psi held (group-wanting vs le n (span g) far) in
      let counted : max (entry_wide [] (length g.params)) (term_wide funs w f.group nowhere g.body) ≤ w f.group =
      subst (λ k. max (entry_wide [] (length g.params)) (term_wide funs w k nowhere g.body) ≤ w k) same wide.0 in
      let some : different vs ≤ different held = different-below vs held le in
      let long : length (moved n g.params) ≡ length g.params = length-map g.params (λ x. n + x) in
      let rest : labels_wide top v gr psi vs (copies funs enter wc f p (suc j) gs (n + copy_count funs wc g)) ≤ different held + w f.group = group-width vs le (suc j) gs (n + copy_count funs wc g) (omega arith) parts.1 wide.1 in
      omega arith)
      (group-width vs le (suc j) gs n far parts.1 wide.1)

none-within : (held : List ℕ) → Within [] held
none-within held x i = absurd (false≢true i)

module _ (funs top : List Fun) (v : Widths) (gr : ℕ) (w : Widths) (ok : list_all (is_function funs) funs ≡ true) (wide : AllWide funs w funs) where
  group-wants : (enter : Entering) (wc : Counts) (f : Fun) → EntersWide funs top v gr w f.group enter → (n : ℕ) (to : Option ℕ) (hs : List Handler) (phi : Wants) (held : List ℕ) → IsBelow n to → ((e : ℕ) → IsBelow n (handler_of e hs)) → Within (to_wants phi to) held → ((e : ℕ) → Within (to_wants phi (handler_of e hs)) held) → ((l : ℕ) → n ≤ l → phi l ≡ [])
      → Within (labels_want (with_wants phi (copies funs enter wc f (record { first = n; to = to; handlers = hs }) 0 funs (n + length funs)) []) (copies funs enter wc f (record { first = n; to = to; handlers = hs }) 0 funs (n + length funs))) held
  group-wants enter wc f enters n to hs phi held lt lts want wants' later =
      group-want funs top v gr w enter wc f enters (record { first = n; to = to; handlers = hs }) phi held lt lts want wants' later [] (none-within held) 0 funs (n + length funs) (omega arith) ok

  entered-want : (enter : Entering) (wc : Counts) (i : ℕ) (f : Fun) → slice_get funs i ≡ Some f → EntersWide funs top v gr w f.group enter → (n : ℕ) (bs : List Atom) (to : Option ℕ) (hs : List Handler) (phi : Wants) (held : List ℕ) → IsBelow n to → ((e : ℕ) → IsBelow n (handler_of e hs)) → Within (to_wants phi to) held → ((e : ℕ) → Within (to_wants phi (handler_of e hs)) held) → ((l : ℕ) → n ≤ l → phi l ≡ [])
      → Within (wants phi (entered funs enter wc i f bs to hs n)) (all_vars bs ++ held)
  entered-want enter wc i f there enters n bs to hs phi held lt lts want wants' later =
      let g = copies funs enter wc f (record { first = n; to = to; handlers = hs }) 0 funs (n + length funs) in
      let vs = labels_want (with_wants phi (copies funs enter wc f (record { first = n; to = to; handlers = hs }) 0 funs (n + length funs)) []) (copies funs enter wc f (record { first = n; to = to; handlers = hs }) 0 funs (n + length funs)) in
      let here : inside phi g (n + i) ≡ vs = group-at funs enter wc f (record { first = n; to = to; handlers = hs }) phi vs 0 funs (n + length funs) i (n + i) f (omega arith) there (class-from f f refl refl) in
      subst (λ k. Within (all_vars bs ++ k) (all_vars bs ++ held)) (sym here) (within-behind_same (all_vars bs) vs held (group-wants enter wc f enters n to hs phi held lt lts want wants' later))

  entered-width : (enter : Entering) (wc : Counts) (i : ℕ) (f : Fun) → slice_get funs i ≡ Some f → EntersWide funs top v gr w f.group enter → (n : ℕ) (bs : List Atom) (to : Option ℕ) (hs : List Handler) (phi : Wants) (held : List ℕ) → IsBelow n to → ((e : ℕ) → IsBelow n (handler_of e hs)) → Within (to_wants phi to) held → ((e : ℕ) → Within (to_wants phi (handler_of e hs)) held) → ((l : ℕ) → n ≤ l → phi l ≡ [])
      → term_wide top v gr phi (entered funs enter wc i f bs to hs n) ≤ max (operands_wide held bs) (different held + w f.group)
  entered-width enter wc i f there enters n bs to hs phi held lt lts want wants' later =
      let g = copies funs enter wc f (record { first = n; to = to; handlers = hs }) 0 funs (n + length funs) in
      let vs = labels_want (with_wants phi (copies funs enter wc f (record { first = n; to = to; handlers = hs }) 0 funs (n + length funs)) []) (copies funs enter wc f (record { first = n; to = to; handlers = hs }) 0 funs (n + length funs)) in
      let le = group-wants enter wc f enters n to hs phi held lt lts want wants' later in
      let here : inside phi g (n + i) ≡ vs = group-at funs enter wc f (record { first = n; to = to; handlers = hs }) phi vs 0 funs (n + length funs) i (n + i) f (omega arith) there (class-from f f refl refl) in
      let bodies : labels_wide top v gr (inside phi g) vs g ≤ different held + w f.group = group-width funs top v gr w enter wc f enters (record { first = n; to = to; handlers = hs }) phi held lt lts want wants' later vs le 0 funs (n + length funs) (omega arith) ok wide in
      let jump : operands_wide (inside phi g (n + i)) bs ≤ operands_wide held bs = subst (λ k. operands_wide k bs ≤ operands_wide held bs) (sym here) (operands-more vs held bs le) in
      omega arith

  want-if : (t : Bool) (x y : Term) (phi : Wants) (all : List ℕ) → (t ≡ true → Within (wants phi x) all) → (t ≡ false → Within (wants phi y) all) → Within (wants phi (if t then x else y)) all
  want-if true x y phi all h g = h refl
  want-if false x y phi all h g = g refl

  width-if : (t : Bool) (x y : Term) (phi : Wants) (m : ℕ) → (t ≡ true → term_wide top v gr phi x ≤ m) → (t ≡ false → term_wide top v gr phi y ≤ m) → term_wide top v gr phi (if t then x else y) ≤ m
  width-if true x y phi m h g = h refl
  width-if false x y phi m h g = g refl

  pub entering-wide : (own : ℕ) → EntersWide funs top v gr w own (entering funs own)
  entering-wide zero = record { want = λ i f there lt. absurd (omega arith); wide = λ i f there lt. absurd (omega arith) }
  entering-wide (suc own) = record {
    want = λ i f there lt n bs to hs phi held lto lhs wto whs later.
        want-if (f.group == own) (entered funs (entering funs own) (counts funs own) i f bs to hs n) (entering funs own i f bs to hs n) phi (all_vars bs ++ held)
        (λ e. entered-want (entering funs own) (counts funs own) i f there (subst (λ x. EntersWide funs top v gr w x (entering funs own)) (sym (eqb-true f.group own e)) (entering-wide own)) n bs to hs phi held lto lhs wto whs later)
        (λ e. (entering-wide own).want i f there (group-less f.group own lt e) n bs to hs phi held lto lhs wto whs later);
    wide = λ i f there lt n bs to hs phi held lto lhs wto whs later.
        width-if (f.group == own) (entered funs (entering funs own) (counts funs own) i f bs to hs n) (entering funs own i f bs to hs n) phi (max (operands_wide held bs) (different held + w f.group))
        (λ e. entered-width (entering funs own) (counts funs own) i f there (subst (λ x. EntersWide funs top v gr w x (entering funs own)) (sym (eqb-true f.group own e)) (entering-wide own)) n bs to hs phi held lto lhs wto whs later)
        (λ e. (entering-wide own).wide i f there (group-less f.group own lt e) n bs to hs phi held lto lhs wto whs later);
  }

-- ---- the program

all-wide-from : (funs : List Fun) (w : Widths) (gs : List Fun) → ((i : ℕ) (g : Fun) → slice_get gs i ≡ Some g → function_wide funs w g ≤ w g.group) → AllWide funs w gs
all-wide-from funs w [] h = tt
all-wide-from funs w (g ∷ gs) h = (h 0 g refl, all-wide-from funs w gs (λ i k e. h (suc i) k e))

entry-covers : (params : List ℕ) → operands_wide [] (operands params) ≤ entry_wide [] (length params)
entry-covers [] = omega arith
entry-covers (x ∷ params) = let long : length (operands params) ≡ length params = length-map params Var in omega arith

pub main-wide : (funs : List Fun) (w : Widths) → AreWidths funs w → list_all (is_function funs) funs ≡ true → (main : ℕ) (f : Fun) → slice_get funs main ≡ Some f → group_wide (inlined_main funs main f ∷ []) 0 ≤ w f.group
main-wide funs w widths ok main f there =
    let top = inlined_main funs main f ∷ [] in
    let all : AllWide funs w funs = all-wide-from funs w funs widths.by in
    let body : term_wide top (widths_within top 0) 0 nowhere (entered funs (entering funs f.group) (counts funs f.group) main f (operands f.params) None [] (behind f.params)) ≤ max (operands_wide [] (operands f.params)) (0 + w f.group) =
    entered-width funs top (widths_within top 0) 0 w ok all (entering funs f.group) (counts funs f.group) main f there (entering-wide funs top (widths_within top 0) 0 w ok all f.group) (behind f.params) (operands f.params) None [] nowhere [] tt (λ e. tt) (λ x i. i) (λ e x i. i) (λ l le. refl) in
    let start : operands_wide [] (operands f.params) ≤ entry_wide [] (length f.params) = entry-covers f.params in
    let counted : max (entry_wide [] (length f.params)) (term_wide funs w f.group nowhere f.body) ≤ w f.group = widths.by main f there in
    omega arith
