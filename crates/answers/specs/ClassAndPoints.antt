-- How two segments meet, in the scope's numbers: the class, and x and y of both points. A point that the class lacks is (+0, +0).
use Rattle.arcs.specs.declared.pline_seg_intr.PlineSegIntr.{PlineSegIntr}
use Rattle.crossing.specs.PlineSegIntr.{class_of, point1_of, point2_of}
use Rattle.answers.specs.declared.class_and_points.ClassAndPoints.{ClassAndPoints}

unfoldable pub class_and_points : PlineSegIntr → ClassAndPoints
class_and_points met =
    record {
      class = class_of met;
      x1 = (point1_of met).x;
      y1 = (point1_of met).y;
      x2 = (point2_of met).x;
      y2 = (point2_of met).y;
    }
