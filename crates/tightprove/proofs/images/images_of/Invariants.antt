use Rattle.tightprove.specs.Classes.{class_rows}
use Rattle.tightprove.specs.Private.Images.{AreImagesOf}
use Rattle.tightprove.proofs.images.images_of.Given as goal

abbrev pub invariant-loop-class : goal.invariant-loop-class
invariant-loop-class l = AreImagesOf l.words.items (class_rows l.classes.list.items) l.class-index l.images
