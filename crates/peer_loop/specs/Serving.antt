-- How many seats those need who fill.
use Rattle.std.specs.Prelude.{ℕ}
use Rattle.peer_loop.specs.declared.fillers.Fillers.{Fillers}
use Rattle.peer_loop.specs.declared.fillers.Fillers.TheVariants as fillers
use Rattle.peer_loop.specs.declared.settings.Settings.{Settings}

-- one for each thread that fills, and for each loop where the loops do
abbrev pub seats_of : Fillers → ℕ → ℕ
seats_of (fillers.Threads count) loops = count
seats_of fillers.Loops loops = loops

-- how many a server needs that serves as these settings say
abbrev pub fill_seats : Settings → ℕ
fill_seats settings = seats_of settings.fillers settings.loops
