-- The bytes of short objects, by computing.
use Rattle.std.proofs.Common.{[], ◌∷◌, inl, inr, ◌<◌, refl, lit<, lit≤}
use Rattle.std.proofs.lemmas.List.Elements.{All-nil, All-cons}
use Rattle.uc_isa.specs.Worked.{sum_code}
use Rattle.uc_object.specs.Object.{IsObject}
use Rattle.uc_object.specs.declared.object.Object.TheVariants.{One, Two}
use Rattle.uc_object.specs.Worked.{ShortObjects, sum_object, raising_object, raising}

sum-object : IsObject sum_object (One sum_code)
sum-object = record {
  code = record { params = lit≤ tt; some = lit≤ tt; few = lit< tt };
  rows =
      1 ∷ 0 ∷ 16 ∷ 1 ∷ 0 ∷ 0 ∷ 0 ∷ 0
      ∷ 0 ∷ 0 ∷ 0 ∷ 0 ∷ 16 ∷ 0 ∷ 0 ∷ 0
      ∷ 6 ∷ 1 ∷ 0 ∷ 0 ∷ 0 ∷ 0 ∷ 0 ∷ 0 ∷ [];
  layout = refl;
  each = (
    1 ∷ 0 ∷ 16 ∷ 1 ∷ 0 ∷ 0 ∷ 0 ∷ 0 ∷ [],
    0 ∷ 0 ∷ 0 ∷ 0 ∷ 16 ∷ 0 ∷ 0 ∷ 0 ∷ 6 ∷ 1 ∷ 0 ∷ 0 ∷ 0 ∷ 0 ∷ 0 ∷ 0 ∷ [],
    refl,
    (16, 1, (lit< tt, refl), (lit< tt, refl), lit< tt, refl),
    (
      0 ∷ 0 ∷ 0 ∷ 0 ∷ 16 ∷ 0 ∷ 0 ∷ 0 ∷ [],
      6 ∷ 1 ∷ 0 ∷ 0 ∷ 0 ∷ 0 ∷ 0 ∷ 0 ∷ [],
      refl,
      (0, 0, 16, (lit< tt, refl), (lit< tt, refl), (lit< tt, refl), refl),
      (6 ∷ 1 ∷ 0 ∷ 0 ∷ 0 ∷ 0 ∷ 0 ∷ 0 ∷ [], [], refl, (lit< tt, lit< tt, refl), refl),
    ),
  );
}

raising-object : IsObject raising_object (Two raising)
raising-object = record {
  code = record { params = lit≤ tt; some = lit≤ tt; few = lit< tt };
  tagged = record { exceptions = lit< tt; starts = lit≤ tt; inside = All-cons (λ start. start < 1) 0 [] (lit< tt) (All-nil (λ start. start < 1)) };
  rows = 6 ∷ 0 ∷ 1 ∷ 0 ∷ 0 ∷ 0 ∷ 0 ∷ 0 ∷ [];
  exceptions = 3 ∷ 0 ∷ 0 ∷ 0 ∷ 3 ∷ 76 ∷ 111 ∷ 119 ∷ [];
  starts = 0 ∷ 0 ∷ 0 ∷ 0 ∷ [];
  layout = refl;
  each_row = (6 ∷ 0 ∷ 1 ∷ 0 ∷ 0 ∷ 0 ∷ 0 ∷ 0 ∷ [], [], refl, (lit< tt, lit< tt, refl), refl);
  each_exception = (
    3 ∷ 0 ∷ 0 ∷ 0 ∷ 3 ∷ 76 ∷ 111 ∷ 119 ∷ [],
    [],
    refl,
    (
      lit< tt,
      (
        (inl (lit≤ tt, lit≤ tt), (inl (inr (inl (lit≤ tt, lit≤ tt))), (inl (inr (inl (lit≤ tt, lit≤ tt))), tt))),
        lit≤ tt,
      ),
      refl,
    ),
    refl,
  );
  each_start = (0 ∷ 0 ∷ 0 ∷ 0 ∷ [], [], refl, (lit< tt, refl), refl);
}

pub short_objects : ShortObjects
short_objects = (sum-object, raising-object)
