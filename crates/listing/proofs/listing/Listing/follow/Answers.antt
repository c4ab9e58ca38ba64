use Rattle.std.specs.Result.{result_ok}
use Rattle.script.specs.Lines.{line_of}
use Rattle.text.specs.Words.{words_of}
use Rattle.listing.proofs.Readings.{understood}
use Rattle.listing.proofs.listing.Listing.follow.Goals as goal

pub returns : goal.returns
returns c =
    record {
      after = c.step.ensures.after;
      reads = understood c.args.self.now (line_of (words_of c.args.text.now)) (result_ok c.step.result) c.step.new.self c.step.ensures.after;
    }
