use Rattle.std.proofs.Common.{ℕ, ◌^◌, ◌<◌, rules}
use Rattle.bits.specs.Permute.{bit, permute}
use Rattle.tripledes.specs.Round.{odds, evens, PLACES, held}
use Rattle.tripledes.specs.Tables.{E}
use Rattle.tripledes.proofs.Round.{Odd, Even, odd_piece, even_piece, f_is}
use Rattle.tripledes.proofs.rounds.mixed.Goals as goal

odd-0 : Odd 26 0
unfolding odds bit permute E PLACES
odd-0 = tt

odd-2 : Odd 18 2
unfolding odds bit permute E PLACES
odd-2 = tt

odd-4 : Odd 10 4
unfolding odds bit permute E PLACES
odd-4 = tt

odd-6 : Odd 2 6
unfolding odds bit permute E PLACES
odd-6 = tt

even-1 : Even 26 1
unfolding evens bit permute E PLACES
even-1 = tt

even-3 : Even 18 3
unfolding evens bit permute E PLACES
even-3 = tt

even-5 : Even 10 5
unfolding evens bit permute E PLACES
even-5 = tt

even-7 : Even 2 7
unfolding evens bit permute E PLACES
even-7 = tt

pub returns : goal.returns
returns c =
    let r : ℕ = c.args.r in
    let k : ℕ = c.args.key in
    let hr : c.args.r < 2 ^ 32 = search rules in
    let hk : c.args.key < 2 ^ 64 = search rules in
    let o = c.odd_word-odd.ensures in
    let e = c.even_word-even.ensures in
    let p0 = odd_piece 26 0 odd-0 r k _ _ hr hk o c.part.ensures in
    let p1 = even_piece 26 1 even-1 r k _ _ hr hk e c.part-2.ensures in
    let p2 = odd_piece 18 2 odd-2 r k _ _ hr hk o c.part-3.ensures in
    let p3 = even_piece 18 3 even-3 r k _ _ hr hk e c.part-4.ensures in
    let p4 = odd_piece 10 4 odd-4 r k _ _ hr hk o c.part-5.ensures in
    let p5 = even_piece 10 5 even-5 r k _ _ hr hk e c.part-6.ensures in
    let p6 = odd_piece 2 6 odd-6 r k _ _ hr hk o c.part-7.ensures in
    let p7 = even_piece 2 7 even-7 r k _ _ hr hk e c.part-8.ensures in
    let q = f_is r (held k) in
    cc
