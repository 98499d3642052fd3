-- `field`: so many bytes make a number that fits as many.
use native.Mathlib.Omega.{arith}
use mathlib.Core.Path.{refl}
use Rattle.endian.proofs.Numbers.{loaded, loaded-fits}
use Rattle.window.proofs.block_reader.field.Goals as goal

pub returns-clause-value : goal.returns-clause-value
returns-clause-value c = loaded c.args.block.now c.args.at c.args.at c.args.width _ refl c.requires.narrow c.load.ensures

pub returns-clause-fits : goal.returns-clause-fits
returns-clause-fits c = loaded-fits c.args.block.now c.args.at c.args.at c.args.width _ refl c.requires.narrow c.load.ensures (λ k. omega (arith, c.type_inv.block k))
