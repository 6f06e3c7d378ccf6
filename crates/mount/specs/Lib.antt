-- Two halves: `Meaning` is what a reader has to believe, `Laws` is what follows from it. `Worked` has calls byte by byte.
pub mod Meaning
pub mod Laws
pub mod Worked
