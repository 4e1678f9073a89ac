-- The last value of an option, one given value further.
use Rattle.std.proofs.Common.{◌≡◌, ◌≢◌, ◌<◌, ◌+◌, ◌++◌, ℕ, List, [], ◌∷◌, MatchOption, Option, None, Some, length, take, get_or, Bor, refl, ap, sym, ◌∙◌, subst, append_assoc, arith, length-append, IfSome}
use Rattle.std.proofs.Math.Seq.{get_or-append_seam}
use Rattle.std.proofs.lemmas.List.{take_more}
use Rattle.std.proofs.lemmas.List.Elements.{All-nil, All-push}
use Rattle.nova_words.specs.declared.parts.Given.{Given}
use Rattle.nova_words.specs.declared.setting.Setting.{Setting}
use Rattle.nova_words.specs.Values.{IsLastValue, IsNotGiven}

last-new : (items : List Given) (setting : Setting) (g : Given) → g.setting ≡ setting → IsLastValue (items ++ g ∷ []) setting g.value.now
last-new items setting g is = (items, g, [], refl, is, refl, All-nil (λ x. x.setting ≢ setting))

last-old : (items : List Given) (setting : Setting) (g : Given) (value : List ℕ) → g.setting ≢ setting → IsLastValue items setting value → IsLastValue (items ++ g ∷ []) setting value
last-old items setting g value not last = (
  last.0,
  last.1,
  last.2 ++ g ∷ [],
  ap (λ l. l ++ g ∷ []) last.3 ∙ append_assoc last.0 (last.1 ∷ last.2) (g ∷ []),
  last.4,
  last.5,
  All-push (λ x. x.setting ≢ setting) last.2 g last.6 not,
)

-- what is known of the last value so far
abbrev pub IsLast : List Given → Setting → Option (Bor (List ℕ)) → Type 0
IsLast items setting last = MatchOption last (IsNotGiven items setting) (λ value. IsLastValue items setting value.now)

last-other : (items : List Given) (setting : Setting) (g : Given) (last : Option (Bor (List ℕ))) → g.setting ≢ setting → IsLast items setting last → IsLast (items ++ g ∷ []) setting last
last-other items setting g None not none = All-push (λ x. x.setting ≢ setting) items g none not
last-other items setting g (Some value) not last = last-old items setting g value.now not last

-- the option is given once more
pub last-then : (items : List Given) (setting : Setting) (i : ℕ) (d : Given) (new : Option (Bor (List ℕ))) → i < length items
    → new ≡ Some (get_or items i d).value → (get_or items i d).setting ≡ setting → IsLast (take (i + 1) items) setting new
last-then items setting i d new h is same =
    let P : List Given → Type 0 = λ l. IsLast l setting (Some (get_or items i d).value) in
    let Q : Option (Bor (List ℕ)) → Type 0 = λ o. IsLast (take (i + 1) items) setting o in
    subst Q (sym is) (subst P (sym (take_more items i d h)) (last-new (take i items) setting (get_or items i d) same))

-- another option is given
pub last-else : (items : List Given) (setting : Setting) (i : ℕ) (d : Given) (old new : Option (Bor (List ℕ))) → i < length items
    → new ≡ old → (get_or items i d).setting ≢ setting → IsLast (take i items) setting old → IsLast (take (i + 1) items) setting new
last-else items setting i d old new h is not last =
    let P : List Given → Type 0 = λ l. IsLast l setting old in
    let Q : Option (Bor (List ℕ)) → Type 0 = λ o. IsLast (take (i + 1) items) setting o in
    subst Q (sym is) (subst P (sym (take_more items i d h)) (last-other (take i items) setting (get_or items i d) old not last))

not-both : (items : List Given) (setting : Setting) (value : List ℕ) → IsNotGiven items setting → IsLastValue items setting value → ⊥
not-both items setting value none last =
    let P : List Given → Type 0 = λ l. IsNotGiven l setting in
    let Q : Given → Type 0 = λ g. g.setting ≢ setting in
    let long : length (last.0 ++ last.1 ∷ last.2) ≡ length last.0 + length (last.1 ∷ last.2) = length-append last.0 (last.1 ∷ last.2) in
    subst Q (get_or-append_seam last.0 last.1 last.2 last.1) (subst P last.3 none (length last.0) last.1 (omega (arith, long))) last.4

-- an option that isn't given has no value
pub no-last : (items : List Given) (setting : Setting) (o : Option (Bor (List ℕ))) → IsNotGiven items setting
    → IfSome o (λ value. IsLastValue items setting value.now) → o ≡ None
no-last items setting None none last = refl
no-last items setting (Some value) none last = absurd (not-both items setting value.now none last)
