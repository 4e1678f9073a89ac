use Rattle.std.proofs.Common.{rules, ◌≡◌, ◌≢◌, All, List, ℕ, [], ◌∷◌, take, ◌≤◌, ◌∙◌, sym, subst, lit<}
use Rattle.std.proofs.lemmas.List.{take_all}
use Rattle.std.proofs.lemmas.List.Elements.{All-more}
use Rattle.nova_lsp.specs.declared.method.Method.{Method}
use Rattle.nova_lsp.specs.declared.method.Method.TheVariants as method
use Rattle.nova_lsp.specs.Methods.{NamesNone, name_of}
use Rattle.nova_lsp.proofs.method.Method.named.Goals as goal

-- all methods are in the list
none-named : (text : List ℕ) (index : ℕ)
    → let all : List Method = method.Hover ∷ method.Definition ∷ method.References ∷ method.DocumentHighlight ∷ method.DocumentSymbol ∷ method.Formatting ∷ method.FoldingRange ∷ method.PrepareRename ∷ method.Rename ∷ method.Completion ∷ method.SignatureHelp ∷ method.CodeAction ∷ method.InlayHint ∷ [] in
    (13 ≤ index → All (λ m. text ≢ name_of m) (take index all) → NamesNone text)
none-named text index h none m =
    let all : List Method = method.Hover ∷ method.Definition ∷ method.References ∷ method.DocumentHighlight ∷ method.DocumentSymbol ∷ method.Formatting ∷ method.FoldingRange ∷ method.PrepareRename ∷ method.Rename ∷ method.Completion ∷ method.SignatureHelp ∷ method.CodeAction ∷ method.InlayHint ∷ [] in
    let P : List Method → Type 0 = All (λ m. text ≢ name_of m) in
    let each : All (λ m. text ≢ name_of m) all = subst P (take_all index all h) none in
    elim m as (λ m. text ≢ name_of m) [
      | method.Hover ↦ each 0 method.Hover (lit< tt)
      | method.Definition ↦ each 1 method.Hover (lit< tt)
      | method.References ↦ each 2 method.Hover (lit< tt)
      | method.DocumentHighlight ↦ each 3 method.Hover (lit< tt)
      | method.DocumentSymbol ↦ each 4 method.Hover (lit< tt)
      | method.Formatting ↦ each 5 method.Hover (lit< tt)
      | method.FoldingRange ↦ each 6 method.Hover (lit< tt)
      | method.PrepareRename ↦ each 7 method.Hover (lit< tt)
      | method.Rename ↦ each 8 method.Hover (lit< tt)
      | method.Completion ↦ each 9 method.Hover (lit< tt)
      | method.SignatureHelp ↦ each 10 method.Hover (lit< tt)
      | method.CodeAction ↦ each 11 method.Hover (lit< tt)
      | method.InlayHint ↦ each 12 method.Hover (lit< tt)
    ]

pub loop-method-preserved : goal.loop-method-preserved
loop-method-preserved c =
    All-more (λ m. c.args.text.now ≢ name_of m) _ c.loop-method.method-index method.Hover c.loop-method-test.true c.loop-method.invariant
    (λ same. let equal : c.name.result.now ≡ c.args.text.now = c.name.ensures ∙ sym same in search rules)

pub returns-clause-none : goal.returns-clause-none
returns-clause-none c = none-named c.args.text.now c.loop-method.method-index c.loop-method-test.false c.loop-method.invariant
