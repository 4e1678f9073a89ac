-- A text has no faulty line, and no two lines are the first faulty one.
use Rattle.std.proofs.Common.{◌≡◌, ℕ, ◌+◌, List, [], ◌∷◌, ◌++◌, length, sym, ap, ◌∙◌, subst, append_assoc}
use Rattle.std.proofs.lemmas.List.{append-nil}
use Rattle.nv_lines.specs.Line.{Lacks, AllLack, text_of}
use Rattle.nv_lines.specs.Format.{IsText, Begins, IsFormat, FirstFault, wrong, short}
use Rattle.nv_lines.proofs.SplitLaws.{same, longer, shorter, lie, after_same, after_longer, lacks_not, split_one, AllLack-front, AllLack-back}

-- what some whole text begins with is a format
pub begins_format : (P : List (List ℕ) → Type 0) → ((ls : List (List ℕ)) → P ls → AllLack 10 ls) → IsFormat (Begins P) P
begins_format P lack =
    record {
      whole = λ ls h. record { more = []; whole = subst P (sym (append-nil ls)) h };
      fewer = λ ls more b. record { more = more ++ b.more; whole = subst P (append_assoc ls more b.more) b.whole };
      lack = λ ls b. AllLack-front 10 ls b.more (lack (ls ++ b.more) b.whole);
    }

-- lines that begin a text don't go on past the wrong one
wrong_past : (F W : List (List ℕ) → Type 0) (front other : List (List ℕ)) (line back y b : List ℕ) (more : List (List ℕ)) → IsFormat F W → Lacks 10 line → ¬ F (front ++ line ∷ []) → F other → other ≡ front ++ y ∷ more → text_of front ++ (line ++ 10 ∷ back) ≡ text_of other ++ b → ⊥
wrong_past F W front other line back y b more is lack none begins e t =
    let lacks_y : Lacks 10 y = (AllLack-back 10 front (y ∷ more) (subst (AllLack 10) e (is.lack other begins))).0 in
    let next = after_longer front more y (line ++ 10 ∷ back) b (t ∙ ap (λ ls. text_of ls ++ b) e) in
    let same_line = (split_one 10 line back y (text_of more ++ b) lack lacks_y next).0 in
    none (is.fewer (front ++ line ∷ []) more (subst F (e ∙ (ap (λ l. front ++ l ∷ more) (sym same_line) ∙ sym (append_assoc front (line ∷ []) more))) begins))

-- a last line that isn't whole has no line in it
short_past : (front other : List (List ℕ)) (last y b : List ℕ) (more : List (List ℕ)) → Lacks 10 last → other ≡ front ++ y ∷ more → text_of front ++ last ≡ text_of other ++ b → ⊥
short_past front other last y b more lack e t =
    lacks_not 10 y (text_of more ++ b) last lack (sym (after_longer front more y last b (t ∙ ap (λ ls. text_of ls ++ b) e)))

pub no_text : (F W : List (List ℕ) → Type 0) (bytes : List ℕ) (n : ℕ) → IsFormat F W → FirstFault F W bytes n → IsText W bytes → ⊥
no_text F W bytes n is (short front last spelled lack begins none) t = none t
no_text F W bytes n is (wrong front line back spelled lack begins none) t =
    let e : text_of front ++ (line ++ 10 ∷ back) ≡ text_of t.lines ++ [] = sym spelled ∙ (t.spelled ∙ sym (append-nil (text_of t.lines))) in
    let other = is.whole t.lines t.whole in
    elim (lie front t.lines (line ++ 10 ∷ back) [] (is.lack front begins) (is.lack t.lines other) e) [
      | same s ↦ lacks_not 10 line back [] tt (after_same front t.lines (line ++ 10 ∷ back) [] s e)
      | longer y more s ↦ wrong_past F W front t.lines line back y [] more is lack none other s e
      | shorter x more s ↦ short_past t.lines front [] x (line ++ 10 ∷ back) more tt s (sym e)
    ]

pub one_fault : (F W : List (List ℕ) → Type 0) (bytes : List ℕ) (m n : ℕ) → IsFormat F W → FirstFault F W bytes m → FirstFault F W bytes n → m ≡ n
one_fault F W bytes m n is (wrong f l b s k bg none) (wrong f' l' b' s' k' bg' none') =
    let e : text_of f ++ (l ++ 10 ∷ b) ≡ text_of f' ++ (l' ++ 10 ∷ b') = sym s ∙ s' in
    elim (lie f f' _ _ (is.lack f bg) (is.lack f' bg') e) [
      | same t ↦ ap (λ ls. length ls + 1) t
      | longer y more t ↦ absurd (wrong_past F W f f' l b y (l' ++ 10 ∷ b') more is k none bg' t e)
      | shorter x more t ↦ absurd (wrong_past F W f' f l' b' x (l ++ 10 ∷ b) more is k' none' bg t (sym e))
    ]
one_fault F W bytes m n is (wrong f l b s k bg none) (short f' last s' k' bg' none') =
    let e : text_of f ++ (l ++ 10 ∷ b) ≡ text_of f' ++ last = sym s ∙ s' in
    elim (lie f f' _ _ (is.lack f bg) (is.lack f' bg') e) [
      | same t ↦ absurd (lacks_not 10 l b last k' (after_same f f' _ _ t e))
      | longer y more t ↦ absurd (wrong_past F W f f' l b y last more is k none bg' t e)
      | shorter x more t ↦ absurd (short_past f' f last x (l ++ 10 ∷ b) more k' t (sym e))
    ]
one_fault F W bytes m n is (short f last s k bg none) (wrong f' l' b' s' k' bg' none') =
    let e : text_of f ++ last ≡ text_of f' ++ (l' ++ 10 ∷ b') = sym s ∙ s' in
    elim (lie f f' _ _ (is.lack f bg) (is.lack f' bg') e) [
      | same t ↦ absurd (lacks_not 10 l' b' last k (sym (after_same f f' _ _ t e)))
      | longer y more t ↦ absurd (short_past f f' last y (l' ++ 10 ∷ b') more k t e)
      | shorter x more t ↦ absurd (wrong_past F W f' f l' b' x last more is k' none' bg t (sym e))
    ]
one_fault F W bytes m n is (short f last s k bg none) (short f' last' s' k' bg' none') =
    let e : text_of f ++ last ≡ text_of f' ++ last' = sym s ∙ s' in
    elim (lie f f' _ _ (is.lack f bg) (is.lack f' bg') e) [
      | same t ↦ ap (λ ls. length ls + 1) t
      | longer y more t ↦ absurd (short_past f f' last y last' more k t e)
      | shorter x more t ↦ absurd (short_past f' f last' x last more k' t (sym e))
    ]
