use Rattle.std.proofs.Common.{inl, inr}
use Rattle.std.proofs.lemmas.Result.{err_from_is_err_and}
use Rattle.nv_meaning_values.specs.inner.TableView.{declared_in}
use Rattle.nv_meaning_values.specs.inner.View.{view}
use Rattle.nv_meaning.proofs.Operands.{made-dot, made-invert, made-negate, made-shift, made-unpack, made-pack, made-fetch, made-short, plain-number, plain-truth, plain-variable, plain-paren, plain-tuple, plain-fields, plain-binary, plain-call, plain-raise, plain-if, plain-try, plain-block}
use Rattle.nv_meaning.proofs.run.made_of.Goals as goal

pub returns-in-Dot : goal.returns-in-Dot
returns-in-Dot c = λ now same. made-dot (declared_in c.args.t.now) c.args.e.now (view c.args.v) now c.in-Dot.field-0 c.in-Dot.x c.field_in.result c.in-Dot.is c.field_in.ensures

pub returns-in-Invert : goal.returns-in-Invert
returns-in-Invert c = λ now same. made-invert (declared_in c.args.t.now) c.args.e.now (view c.args.v) now c.in-Invert.field-0 c.word_in.result c.not.result c.in-Invert.is c.word_in.ensures c.not.ensures

pub returns-in-Negate : goal.returns-in-Negate
returns-in-Negate c = λ now same. made-negate (declared_in c.args.t.now) c.args.e.now (view c.args.v) now c.in-Negate.field-0 c.truth_in.result c.in-Negate.is c.truth_in.ensures

pub returns-in-Shift : goal.returns-in-Shift
returns-in-Shift c = λ now same. made-shift (declared_in c.args.t.now) c.args.e.now (view c.args.v) now c.in-Shift.op c.in-Shift.field-1 c.in-Shift.n c.word_in-in-Shift.result c.shifted.result c.in-Shift.is c.word_in-in-Shift.ensures c.shifted.ensures

pub returns-in_err-unpacked-in-Unpack : goal.returns-in_err-unpacked-in-Unpack
returns-in_err-unpacked-in-Unpack c = λ now same.
    let p = err_from_is_err_and c.from_residual.result c.from_residual.ensures.1 in
    rw (p.1, p.2) (made-short (declared_in c.args.t.now) c.args.e.now (view c.args.v) now)

pub returns-in-Unpack : goal.returns-in-Unpack
returns-in-Unpack c = λ now same. made-unpack (declared_in c.args.t.now) c.args.e.now (view c.args.v) now c.in-Unpack.l c.in-Unpack.field-1 c.in_ok-unpacked-in-Unpack.field-0 c.in-Unpack.is c.in_ok-unpacked-in-Unpack.ensures

pub returns-in_err-packed-in-Pack : goal.returns-in_err-packed-in-Pack
returns-in_err-packed-in-Pack c = λ now same.
    let p = err_from_is_err_and c.from_residual-in_err-packed-in-Pack.result c.from_residual-in_err-packed-in-Pack.ensures.1 in
    rw (p.1, p.2) (made-short (declared_in c.args.t.now) c.args.e.now (view c.args.v) now)

pub returns-in-Pack : goal.returns-in-Pack
returns-in-Pack c = λ now same. made-pack (declared_in c.args.t.now) c.args.e.now (view c.args.v) now c.in-Pack.l c.in-Pack.field-1 c.in_ok-packed-in-Pack.field-0 c.in-Pack.is c.in_ok-packed-in-Pack.ensures

pub returns-in-Fetch : goal.returns-in-Fetch
returns-in-Fetch c = λ now same. made-fetch (declared_in c.args.t.now) c.args.e.now (view c.args.v) now c.in-Fetch.m c.in-Fetch.n c.in-Fetch.field-2 c.word_in-in-Fetch.result c.fetched.result c.in-Fetch.is c.word_in-in-Fetch.ensures (c.fetched.ensures now same)

pub returns : goal.returns
returns c = λ now same. elim c.in-Number.is [
  | inl h ↦ plain-number (declared_in c.args.t.now) c.args.e.now (view c.args.v) now h.0 h.1
  | inr r ↦ elim r [
    | inl h ↦ plain-truth (declared_in c.args.t.now) c.args.e.now (view c.args.v) now h.0 h.1
    | inr r ↦ elim r [
      | inl h ↦ plain-variable (declared_in c.args.t.now) c.args.e.now (view c.args.v) now h.0 h.1
      | inr r ↦ elim r [
        | inl h ↦ plain-paren (declared_in c.args.t.now) c.args.e.now (view c.args.v) now h.0 h.1
        | inr r ↦ elim r [
          | inl h ↦ plain-tuple (declared_in c.args.t.now) c.args.e.now (view c.args.v) now h.0 h.1
          | inr r ↦ elim r [
            | inl h ↦ plain-fields (declared_in c.args.t.now) c.args.e.now (view c.args.v) now h.0 h.1
            | inr r ↦ elim r [
              | inl h ↦ plain-binary (declared_in c.args.t.now) c.args.e.now (view c.args.v) now h.0 h.1 h.2 h.3
              | inr r ↦ elim r [
                | inl h ↦ plain-call (declared_in c.args.t.now) c.args.e.now (view c.args.v) now h.0 h.1 h.2
                | inr r ↦ elim r [
                  | inl h ↦ plain-raise (declared_in c.args.t.now) c.args.e.now (view c.args.v) now h.0 h.1 h.2
                  | inr r ↦ elim r [
                    | inl h ↦ plain-if (declared_in c.args.t.now) c.args.e.now (view c.args.v) now h.0 h.1 h.2 h.3
                    | inr r ↦ elim r [
                      | inl h ↦ plain-try (declared_in c.args.t.now) c.args.e.now (view c.args.v) now h.0 h.1 h.2 h.3 h.4
                      | inr r ↦ plain-block (declared_in c.args.t.now) c.args.e.now (view c.args.v) now r.0 r.1 r.2
                    ]
                  ]
                ]
              ]
            ]
          ]
        ]
      ]
    ]
  ]
]
