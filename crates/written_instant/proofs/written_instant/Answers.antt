-- `written_instant::written_instant` meets its contract: the instant of the local fields, less the zone.
use Rattle.std.specs.Prelude.{Ok, Err, Option, Some, None}
use borrow.Author.Rules.{rules}
use mathlib.Core.Path.{◌≡◌, sym, ap, ◌∙◌, subst}
use mathlib.Core.Bool.{Bool}
use lib.IntN.{ℤ}
use mir.ValLaws.{to_z-of_z}
use mir.Syntax.{w64}
use mir.Val.{to_z, of_z, SFits}
use Rattle.date_text.specs.declared.Zone.{Zone}
use Rattle.instant.specs.Instant.{in_range}
use Rattle.instant.specs.Closed.{fields_refusal, FoundAt}
use Rattle.written_instant.specs.Instants.{local_fields, is_zone, less_zone, written_instant}
use Rattle.written_instant.proofs.Laws.{local_range, with_year}
use Rattle.written_instant.proofs.written_instant.Goals as goal
use Rattle.written_instant.proofs.written_instant.Goals.{After-found_instant}

-- what was found of the local fields, with the zone beside them
module _ (i : After-found_instant) where
  abbrev zone : Zone
  zone = i.args.w.time.zone

  year_is : to_z w64 (of_z w64 i.signed_size.result) ≡ (local_fields i.args.w).year
  year_is = to_z-of_z w64 i.signed_size.result (record { sfits = i.signed_size.type_inv }) ∙ i.signed_size.ensures

  told : (r : Option ℤ) → i.found_instant.result ≡ r → FoundAt (is_zone zone) i.args.c (local_fields i.args.w) r
  told r e =
      let a = i.args in
      subst (FoundAt (is_zone zone) a.c (local_fields a.w)) e
      (subst (λ (y : ℤ). FoundAt (is_zone zone) a.c (with_year y a.w) i.found_instant.result) year_is
      (subst (λ (b : Bool). FoundAt b a.c (with_year (to_z w64 (of_z w64 i.signed_size.result)) a.w) i.found_instant.result) i.is_zone.ensures i.found_instant.ensures))

-- the local instant, as it is passed on
local : (t : ℤ) → SFits w64 t → to_z w64 (of_z w64 t) ≡ t
local t h = to_z-of_z w64 t h

pub less_zone-requires : goal.less_zone-requires
less_zone-requires c =
    let a = c.args in
    let t = c.in-Some.u in
    let r = local_range (is_zone a.w.time.zone) a.c (local_fields a.w) t (told (goal.at.less_zone-requires c).After-found_instant (Some t) c.in-Some.is) in
    (r.0, ap (in_range a.c) (local t (search rules)) ∙ r.1)

pub returns-in-Some : goal.returns-in-Some
unfolding written_instant
returns-in-Some c =
    let t = c.in-Some.u in
    c.less_zone.ensures
    ∙ ap (less_zone c.args.c c.args.w.time.zone) (ap Ok (local t (search rules)) ∙ sym (told (goal.at.returns-in-Some c).After-found_instant (Some t) c.in-Some.is))

pub returns-in-None : goal.returns-in-None
unfolding written_instant
returns-in-None c =
    let z = c in
    let m = c in
    let i = (goal.at.returns-in-None c).After-found_instant in
    let a = i.args in
    ap Err (c.fields_refusal.ensures ∙ (λ j. fields_refusal (z.is_zone-in-None.ensures j) a.c (with_year (year_is i j) a.w)))
    ∙ ap (less_zone a.c (zone i)) (sym (told i None m.in-None.is))
