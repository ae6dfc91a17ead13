-- `datetime64_number::near_bounds` meets its contract: proofs/NearSteps.antt.
use native.Mathlib.Omega.{arith}
use Rattle.datetime64_number.proofs.Ratios.{has_time}
use Rattle.datetime64_number.proofs.NearSteps.{near_read}
use Rattle.datetime64_number.proofs.near_bounds.Goals as goal

pub returns : goal.returns
returns c =
    let p = c.args.part in
    let m = c.near_steps-most.result in
    let g = c.near_steps-most.ensures in
    record {
      around = (omega arith, omega arith, omega (arith, g.1));
      time = λ n b. has_time n (omega (arith, b.0, g.1));
      read = λ n f b. near_read p n m f g.0 (omega (arith, b.0)) b.1;
    }
