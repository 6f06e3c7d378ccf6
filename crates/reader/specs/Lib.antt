-- Two halves: `Meaning` is what a reader has to believe, `Laws` is what follows from it. `Worked` is an example.
pub mod Meaning
pub mod Laws
pub mod Worked
