-- The demands of specs/Demands.antt, all of them. Each part is proved in a file of its own, from the theorems of the crates below.
use Rattle.uppinalo.specs.Demands.{Demands}
use Rattle.uppinalo.proofs.Unnamed.{codes, other_codes, other_calendar}
use Rattle.uppinalo.proofs.Cutovers.{cutovers}
use Rattle.uppinalo.proofs.Zeros.{refusals}
use Rattle.uppinalo.proofs.NextDay.{dates, days_after, days}
use Rattle.uppinalo.proofs.Writings.{writing}
use Rattle.uppinalo.proofs.Derived.{texts, before_texts}
use Rattle.uppinalo.proofs.DaysBack.{days_back_lem}
use Rattle.uppinalo.proofs.WhyRefused.{refused_dates}
use Rattle.uppinalo.proofs.InFragments.{fragments}
use Rattle.uppinalo.proofs.Doubles.{doubles}
use Rattle.uppinalo.proofs.Alone.{runs, past_reference}
use Rattle.uppinalo.proofs.Range.{in_years_lem}
use Rattle.uppinalo.proofs.Identifiers.{identifiers}
use Rattle.uppinalo.proofs.Records as Records
use Rattle.uppinalo.proofs.ArraysBack as Back
use Rattle.uppinalo.proofs.UtcTimes.{bad_lists, utc_times}

pub demands : Demands
demands =
    record {
      codes = codes;
      other_codes = other_codes;
      other_calendar = other_calendar;
      cutovers = cutovers;
      refusals = refusals;
      dates = dates;
      days_there = days_after;
      days = days;
      writing = writing;
      days_back_lem = days_back_lem;
      refused_dates = refused_dates;
      texts = texts;
      before_texts = before_texts;
      fragments = fragments;
      doubles = doubles;
      runs = runs;
      past_reference = past_reference;
      in_years_lem = in_years_lem;
      arrays = record { identifiers = identifiers; reading = Records.reading; writing = Records.writing; records = Back.records; back = Back.back };
      bad_lists = bad_lists;
      utc_times = utc_times;
    }
