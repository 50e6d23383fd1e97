use Rattle.std.proofs.Common.{refl}
use Rattle.script.specs.Reading.{enclosed}
use Rattle.script.proofs.Cut.{outward}
use Rattle.script.proofs.reader.Reader.inner_form.Goals as goal

pub returns : goal.returns
returns g c = outward (enclosed g.T.InnerForm.within) g.met.T.InnerForm.shut c.inner-inner.ensures c.in_brackets-form.ensures _ refl refl
