-- A short report and short trees, by computing; and what a searched tree proves.
use Rattle.std.proofs.Common.{◌≡◌, refl, ℕ, ◌<◌, ◌≤◌, ◌^◌, ℤ, pos, List, [], ◌∷◌, ◌++◌, Vec, Bool, true, false, Option, Some, ◌⊎◌, inl, inr, lit<, lit≤, codes, slice_set, All}
use Rattle.std.proofs.lemmas.List.Elements.{All-nil, All-cons}
use Rattle.std.specs.Fmt.{digits}
use Rattle.std.specs.Global.{Global}
use Rattle.zo_model.specs.Program.{IsCoefficient}
use Rattle.zo_model.specs.ProgramText.{IsRowText}
use Rattle.zo_model.specs.declared.program.ZeroOne.{ZeroOne}
use Rattle.zo_cert_tree.specs.Certificate.{Tree, leaf, branch, preorder, EachNode, OfLeaf, ClosesLeaf, HasLeft, unfixed}
use Rattle.zo_cert_tree.specs.Node.{IsNodeText, bound_by}
use Rattle.zo_cert_tree.specs.Searched.{IsClosed, IsLeftOrDone, reach}
use Rattle.zo_cert_tree.specs.declared.cert.CertNode.{CertNode}
use Rattle.zo_cert_tree.specs.declared.cert.CertNode.TheVariants.{Branch, Bound, Clash, Left}
use Rattle.zo_cert_tree.specs.declared.cert.Claim.{Claim}
use Rattle.zo_cert.specs.ReportText.{report_text}
use Rattle.zo_cert.specs.ReportFault.{IsReport, wrong_cost}
use Rattle.zo_cert.specs.declared.report.Verdict.TheVariants.{Optimal}
use Rattle.laws_commands.specs.ExamplesReports.{ShortReport, SearchProves, DepthFirst, FixedColumns, cheaper_of_two}

pub fixed_columns : FixedColumns
unfolding reach
fixed_columns = record { both = refl; second = refl; first = refl; one = refl; zero = refl; unfixed = refl }

not_left_or_done : (ms : Vec (ℕ × ℕ) Global) → IsLeftOrDone (branch 1 (leaf (Clash ms)) (leaf Left)) → ⊥
not_left_or_done ms (inl h) = h
not_left_or_done ms (inr h) = h tt

neither : (ms : Vec (ℕ × ℕ) Global) → IsLeftOrDone (branch 1 (leaf (Clash ms)) (leaf Left)) ⊎ IsLeftOrDone (branch 1 (leaf (Clash ms)) (leaf Left)) → ⊥
neither ms (inl h) = not_left_or_done ms h
neither ms (inr h) = not_left_or_done ms h

pub depth_first : DepthFirst
depth_first = record {
  cut_off = λ ms. (inr (inl tt), (inr (inl tt), tt, tt), tt);
  went_on = λ ms h. neither ms h.0;
}

left_front : (ns ms : List CertNode) → HasLeft ns → HasLeft (ns ++ ms)
left_front [] ms h = absurd h
left_front (Branch j ∷ ns) ms h = left_front ns ms h
left_front (Bound d ms' ∷ ns) ms h = left_front ns ms h
left_front (Clash ms' ∷ ns) ms h = left_front ns ms h
left_front (Left ∷ ns) ms h = tt

left_behind : (ns ms : List CertNode) → HasLeft ms → HasLeft (ns ++ ms)
left_behind [] ms h = h
left_behind (Branch j ∷ ns) ms h = left_behind ns ms h
left_behind (Bound d ms' ∷ ns) ms h = left_behind ns ms h
left_behind (Clash ms' ∷ ns) ms h = left_behind ns ms h
left_behind (Left ∷ ns) ms h = tt

closed_leaf : (z : ZeroOne) (claim : Claim) (f : List (Option Bool)) (n : CertNode) → (HasLeft (n ∷ []) → ⊥) → IsClosed z claim f n → OfLeaf (ClosesLeaf z claim) f n
closed_leaf z claim f (Branch j) none h = tt
closed_leaf z claim f (Bound d ms) none h = h
closed_leaf z claim f (Clash ms) none h = h
closed_leaf z claim f Left none h = absurd (none tt)

closed_tree : (z : ZeroOne) (claim : Claim) (t : Tree) (f : List (Option Bool)) → (HasLeft (preorder t) → ⊥) → EachNode (IsClosed z claim) f t → EachNode (OfLeaf (ClosesLeaf z claim)) f t
closed_tree z claim (leaf n) f none (l, h) = (l, closed_leaf z claim f n none h)
closed_tree z claim (branch j a b) f none (free, h, in_a, in_b) = (
  free,
  tt,
  closed_tree z claim a (slice_set f j (Some false)) (λ h. none (left_front (preorder a) (preorder b) h)) in_a,
  closed_tree z claim b (slice_set f j (Some true)) (λ h. none (left_behind (preorder a) (preorder b) h)) in_b,
)

pub search_proves : SearchProves
search_proves z claim t s none = closed_tree z claim t (unfixed z) none s.leaves_closed

-- ---- the limits of the report

one_is_not_zero : ◌≡◌ {A = ℤ} (pos 1) (pos 0) → ⊥
one_is_not_zero e = cc

abbrev HasCoefficient : ℕ × ℤ → Type 0
HasCoefficient t = IsCoefficient t.1

one : IsCoefficient (pos 1)
one = record { low = record { le = tt }; high = record { le = tt }; not_zero = one_is_not_zero }

row : IsRowText 2 (record { terms = (0, pos 1) ∷ (1, pos 1) ∷ []; least = pos 1 })
row = record {
  terms_fit = record {
    few = lit≤ tt;
    rise = (lit≤ tt, lit< tt, (lit≤ tt, lit< tt, tt));
    coefficients_fit = All-cons HasCoefficient (0, pos 1) ((1, pos 1) ∷ []) one (All-cons HasCoefficient (1, pos 1) [] one (All-nil HasCoefficient));
  };
  least_fits = record { low = record { le = tt }; high = record { le = tt } };
}

abbrev IsSmall : ℕ → Type 0
IsSmall c = c < 2 ^ 20

costs : All IsSmall (3 ∷ 5 ∷ [])
costs = All-cons IsSmall 3 (5 ∷ []) (lit< tt) (All-cons IsSmall 5 [] (lit< tt) (All-nil IsSmall))

abbrev IsPositive : ℕ × ℕ → Type 0
IsPositive m = 1 ≤ m.1

abbrev IsWord : ℕ × ℕ → Type 0
IsWord m = m.1 < 2 ^ 32

bound : IsNodeText (bound_by 1 ((0, 3) ∷ []))
bound = (
  lit≤ tt,
  lit< tt,
  record { rise = (lit≤ tt, lit< tt, tt); not_zero = All-cons IsPositive (0, 3) [] (lit≤ tt) (All-nil IsPositive) },
  All-cons IsWord (0, 3) [] (lit< tt) (All-nil IsWord),
)

limits : IsReport cheaper_of_two
limits = record {
  in_limits = record {
    slots_fit = lit≤ tt;
    budget_low = lit≤ tt;
    budget_high = lit≤ tt;
    program_valid = record {
      columns_fit = lit≤ tt;
      rows_fit = lit≤ tt;
      costs_fit = costs;
      rows_ok = All-cons (IsRowText 2) (record { terms = (0, pos 1) ∷ (1, pos 1) ∷ []; least = pos 1 }) [] row (All-nil (IsRowText 2));
    };
  };
  one_a_column = refl;
  blank = tt;
  some_nodes = lit≤ tt;
  few_nodes = lit< tt;
  nodes_fit = All-cons IsNodeText (bound_by 1 ((0, 3) ∷ [])) [] bound (All-nil IsNodeText);
}

pub short_report : ShortReport
unfolding report_text digits
short_report = record {
  limits = limits;
  spelled = refl;
  wrong_cost = wrong_cost (record {
    slots = 0;
    budget = 1;
    program = cheaper_of_two.program;
    verdict = Optimal;
    stated = 4;
    on = true ∷ false ∷ [];
    back = codes "tree 1" ++ 10 ∷ codes "d 1 0:3" ++ 10 ∷ [];
    in_limits = limits.in_limits;
    has_cost = tt;
    within = lit< tt;
    one_a_column = refl;
    not_its_cost = four_is_not_three;
    spelled = refl;
    line = refl;
  });
}
  where
    four_is_not_three : ◌≡◌ {A = ℕ} 4 3 → ⊥
    four_is_not_three e = cc
