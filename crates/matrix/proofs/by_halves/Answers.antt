-- `matrix::by_halves` meets its contract, by the law of halves.
use Rattle.std.proofs.Common.{pow_pos}
use Rattle.matrix.proofs.Halves.{half_shifted, half_words, shift_small, machine_upper, machine_sum, machine_fits, machine_joined}
use Rattle.matrix.proofs.by_halves.Goals as goal

pub overflow_shr-upper : goal.overflow_shr-upper
overflow_shr-upper g c = shift_small c.args.n c.requires.small

pub overflow_shl-lower : goal.overflow_shl-lower
overflow_shl-lower g c = shift_small c.args.n c.requires.small

pub nonzero_rem-lower : goal.nonzero_rem-lower
nonzero_rem-lower g c = rw (half_shifted c.args.n c.requires.small, half_words c.args.n c.requires.small) (pow_pos _)

pub map-requires : goal.map-requires
map-requires g c = (c.requires.maps _ (machine_upper c.args.n c.requires.small c.args.w c.requires.fits)).0

pub overflow_shl-result : goal.overflow_shl-result
overflow_shl-result g c = shift_small c.args.n c.requires.small

pub map-requires-2 : goal.map-requires-2
map-requires-2 g c = (c.requires.maps _ (machine_sum c.args.n c.requires.small c.args.w c.requires.fits)).0

pub overflow_add-result : goal.overflow_add-result
overflow_add-result g c =
    record {
      fits =
          machine_fits c.args.n c.requires.small c.args.w c.requires.fits _ _
          ((c.requires.maps _ (machine_upper c.args.n c.requires.small c.args.w c.requires.fits)).1 _ c.map.ensures)
          ((c.requires.maps _ (machine_sum c.args.n c.requires.small c.args.w c.requires.fits)).1 _ c.map-2.ensures);
    }

pub returns : goal.returns
returns g c =
    machine_joined c.args.n c.requires.small c.args.w c.requires.fits _ _
    ((c.requires.maps _ (machine_upper c.args.n c.requires.small c.args.w c.requires.fits)).1 _ c.map.ensures)
    ((c.requires.maps _ (machine_sum c.args.n c.requires.small c.args.w c.requires.fits)).1 _ c.map-2.ensures)
