pub mod StrandLaws
