use Rattle.contents.proofs.ReadsBack.{image_reads_back}
use Rattle.contents.proofs.Contents.write_image.Goals as goal

pub returns-then-area-lt-LONGEST_IMAGE-clause-back : goal.returns-then-area-lt-LONGEST_IMAGE-clause-back
returns-then-area-lt-LONGEST_IMAGE-clause-back c = image_reads_back _ c.args.self.now.ok

pub returns-clause-back : goal.returns-clause-back
returns-clause-back c = image_reads_back _ c.args.self.now.ok
