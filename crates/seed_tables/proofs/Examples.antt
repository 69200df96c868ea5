-- The first lines of the first seeds, computed by the definitions: the texts that seeds 0 and 1 begin with, byte by
-- byte.
use Rattle.std.proofs.Common.{◌≡◌, take, refl}
use Rattle.std.specs.Prelude.{codes}
use Rattle.seed_tables.specs.Draws.{after, drawn, next}
use Rattle.seed_tables.specs.Flights.{airports_from, all_flights_from, flights_from}
use Rattle.seed_tables.specs.Trial.{fleet_text, timetable_text}

-- the first draw of an airport gives 2 for seed 0, and 4 for seed 1
fleet_0 : take 72 (fleet_text 0) ≡ codes "tail,type,at,ready,fixed,tags,avoid,carry\nA0,P,T2,2025-03-03T00:00,0,,,\n"
unfolding after next drawn airports_from
fleet_0 = refl

fleet_1 : take 72 (fleet_text 1) ≡ codes "tail,type,at,ready,fixed,tags,avoid,carry\nA0,P,T4,2025-03-03T00:00,0,,,\n"
unfolding after next drawn airports_from
fleet_1 = refl

-- the first three flights of seed 0, and the first of seed 1
timetable_0 : take 220 (timetable_text 0) ≡ codes "id,kind,from,to,start,end,types,tags,tail,resets\nK0N00,flight,T2,T3,2025-03-03T02:09,2025-03-03T04:46,,,,\nK0N01,flight,T3,T4,2025-03-03T05:36,2025-03-03T06:47,,,,\nK0N02,flight,T4,T3,2025-03-03T08:37,2025-03-03T10:01,,,,\n"
unfolding after next drawn flights_from all_flights_from
timetable_0 = refl

timetable_1 : take 106 (timetable_text 1) ≡ codes "id,kind,from,to,start,end,types,tags,tail,resets\nK0N00,flight,T4,T2,2025-03-03T00:48,2025-03-03T02:24,,,,\n"
unfolding after next drawn flights_from all_flights_from
timetable_1 = refl
