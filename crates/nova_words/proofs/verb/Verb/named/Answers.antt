use Rattle.std.proofs.Common.{rules, ◌≡◌, ◌≢◌, All, List, ℕ, [], ◌∷◌, take, ◌≤◌, ◌∙◌, sym, subst, lit<}
use Rattle.std.proofs.lemmas.List.{take_all}
use Rattle.std.proofs.lemmas.List.Elements.{All-more}
use Rattle.nova_words.specs.declared.verb.Verb.{Verb}
use Rattle.nova_words.specs.declared.verb.Verb.TheVariants as verb
use Rattle.nova_words.specs.Limits.{NamesNone, name_of}
use Rattle.nova_words.proofs.verb.Verb.named.Goals as goal

-- all commands are in the list
none-named : (word : List ℕ) (index : ℕ)
    → let all : List Verb = verb.Build ∷ verb.Run ∷ verb.List ∷ verb.Check ∷ verb.Test ∷ verb.Trace ∷ verb.Page ∷ verb.Forms ∷ verb.Format ∷ verb.Asm ∷ verb.Mem ∷ verb.Replay ∷ verb.Serve ∷ verb.Explain ∷ verb.Help ∷ verb.Version ∷ [] in
    (16 ≤ index → All (λ v. word ≢ name_of v) (take index all) → NamesNone word)
none-named word index h none v =
    let all : List Verb = verb.Build ∷ verb.Run ∷ verb.List ∷ verb.Check ∷ verb.Test ∷ verb.Trace ∷ verb.Page ∷ verb.Forms ∷ verb.Format ∷ verb.Asm ∷ verb.Mem ∷ verb.Replay ∷ verb.Serve ∷ verb.Explain ∷ verb.Help ∷ verb.Version ∷ [] in
    let P : List Verb → Type 0 = All (λ v. word ≢ name_of v) in
    let each : All (λ v. word ≢ name_of v) all = subst P (take_all index all h) none in
    elim v as (λ v. word ≢ name_of v) [
      | verb.Build ↦ each 0 verb.Build (lit< tt)
      | verb.Run ↦ each 1 verb.Build (lit< tt)
      | verb.List ↦ each 2 verb.Build (lit< tt)
      | verb.Check ↦ each 3 verb.Build (lit< tt)
      | verb.Test ↦ each 4 verb.Build (lit< tt)
      | verb.Trace ↦ each 5 verb.Build (lit< tt)
      | verb.Page ↦ each 6 verb.Build (lit< tt)
      | verb.Forms ↦ each 7 verb.Build (lit< tt)
      | verb.Format ↦ each 8 verb.Build (lit< tt)
      | verb.Asm ↦ each 9 verb.Build (lit< tt)
      | verb.Mem ↦ each 10 verb.Build (lit< tt)
      | verb.Replay ↦ each 11 verb.Build (lit< tt)
      | verb.Serve ↦ each 12 verb.Build (lit< tt)
      | verb.Explain ↦ each 13 verb.Build (lit< tt)
      | verb.Help ↦ each 14 verb.Build (lit< tt)
      | verb.Version ↦ each 15 verb.Build (lit< tt)
    ]

pub loop-verb-preserved : goal.loop-verb-preserved
loop-verb-preserved c =
    All-more (λ v. c.args.word.now ≢ name_of v) _ c.loop-verb.verb-index verb.Build c.loop-verb-test.true c.loop-verb.invariant
    (λ same. let equal : c.name.result.now ≡ c.args.word.now = c.name.ensures ∙ sym same in search rules)

pub returns-clause-none : goal.returns-clause-none
returns-clause-none c = none-named c.args.word.now c.loop-verb.verb-index c.loop-verb-test.false c.loop-verb.invariant
