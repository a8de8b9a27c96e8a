pub mod Strand
